-- Tables of moves that are put together from two tables.
use Rattle.std.proofs.Common.{◌≡◌, ℕ, inl, inr, Bool, true, false, cond, Option, IsSomeAnd, refl, sym, subst}
use Rattle.std.proofs.lemmas.Bool.{cases_Bool}

pub is_false : (b : Bool) → (b ≡ true → ⊥) → b ≡ false
is_false b out = elim (cases_Bool b) [ inl inside ↦ absurd (out inside) | inr outside ↦ outside ]

-- the table of moves that equals one table inside a set, and another table outside the set
pub by_set : (ℕ → Bool) → (ℕ → Option ℕ) → (ℕ → Option ℕ) → ℕ → Option ℕ
by_set set inner outer v = cond (set v) (inner v) (outer v)

pub by_set-inside : (set : ℕ → Bool) (inner outer : ℕ → Option ℕ) (v : ℕ) → set v ≡ true →
    by_set set inner outer v ≡ inner v
unfolding by_set
by_set-inside set inner outer v e = rw e refl

pub by_set-outside : (set : ℕ → Bool) (inner outer : ℕ → Option ℕ) (v : ℕ) → set v ≡ false →
    by_set set inner outer v ≡ outer v
unfolding by_set
by_set-outside set inner outer v e = rw e refl

pub some_as : (P : ℕ → Type 0) (one other : Option ℕ) → one ≡ other → IsSomeAnd other P → IsSomeAnd one P
some_as P one other same h = subst (λ (o : Option ℕ). IsSomeAnd o P) (sym same) h
