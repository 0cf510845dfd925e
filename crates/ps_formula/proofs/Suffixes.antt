-- Whether a word satisfies a formula at an index depends only on its letters from there on.
use Rattle.std.proofs.Common.{◌≡◌, ℕ, ◌+◌, ◌-◌, ◌⊎◌, inl, inr, subst, sym, arith, ap, ◌∙◌}
use Rattle.std.specs.Prelude.{IsTrue}
use Rattle.ps_label.specs.Truth.{is_in}
use Rattle.ps_formula.specs.Formulas.{Formula, constant, proposition, not_of, and_of, or_of, implies, iff, next, until}
use Rattle.ps_formula.specs.Formulas.{release, weak_until, finally, globally}
use Rattle.ps_formula.specs.Satisfaction.{Reaches, Keeps, Satisfies}

-- the words have the same letters from these indices on
pub record AreSameFrom (v : ℕ → ℕ) (i : ℕ) (w : ℕ → ℕ) (j : ℕ) : Type 0 where
  pub each : (k : ℕ) → v (i + k) ≡ w (j + k)

flipped : {v w : ℕ → ℕ} {i j : ℕ} → AreSameFrom v i w j → AreSameFrom w j v i
flipped same = record { each = λ k. sym (same.each k) }

later : (v w : ℕ → ℕ) (i j : ℕ) → AreSameFrom v i w j → (m : ℕ) → AreSameFrom v (i + m) w (j + m)
later v w i j same m = record {
  each = λ k. ap v (omega arith) ∙ same.each (m + k) ∙ ap w (omega arith);
}

-- two predicates of indices, of which the second is true, from j on, wherever the first is, from i on
record Implies (A : ℕ → Type 0) (i : ℕ) (B : ℕ → Type 0) (j : ℕ) : Type 0 where
  each : (k : ℕ) → A (i + k) → B (j + k)

at : (A : ℕ → Type 0) (m n : ℕ) → m ≡ n → A m → A n
at A m n is a = subst A is a

reaches_too : (A B C D : ℕ → Type 0) (i j : ℕ) → Implies A i C j → Implies B i D j → Reaches A B i → Reaches C D j
reaches_too A B C D i j a b r =
    let l = r.later in
    record {
      end = j + (r.end - i);
      later = omega arith;
      there = b.each (r.end - i) (at B r.end (i + (r.end - i)) (omega arith) r.there);
      before = λ k low high. at C (j + (k - j)) k (omega arith)
          (a.each (k - j) (r.before (i + (k - j)) (omega arith) (omega arith)));
    }

keeps_too : (A B C D : ℕ → Type 0) (i j : ℕ) → Implies A i C j → Implies B i D j → Keeps A B i → Keeps C D j
keeps_too A B C D i j a b r = record {
  each = λ m low. elim (r.each (i + (m - j)) (omega arith)) [
    | inl there ↦ inl (at D (j + (m - j)) m (omega arith) (b.each (m - j) there))
    | inr ended ↦
        let l = ended.1 in
        let h = ended.2 in
        inr (
          j + (ended.0 - i),
          omega arith,
          omega arith,
          a.each (ended.0 - i) (at A ended.0 (i + (ended.0 - i)) (omega arith) ended.3),
        )
  ];
}

-- the words satisfy the same formulas at these indices
pub same_satisfied : (f : Formula) (v w : ℕ → ℕ) (i j : ℕ) → AreSameFrom v i w j → Satisfies f v i → Satisfies f w j
same_satisfied (constant b) v w i j same h = h
same_satisfied (proposition p) v w i j same h =
    let letter : v i ≡ w j = ap v (omega arith) ∙ same.each 0 ∙ ap w (omega arith) in
    subst (λ (x : ℕ). IsTrue (is_in p x)) letter h
same_satisfied (not_of f) v w i j same h = λ s. h (same_satisfied f w v j i (flipped same) s)
same_satisfied (and_of f g) v w i j same h = (same_satisfied f v w i j same h.0, same_satisfied g v w i j same h.1)
same_satisfied (or_of f g) v w i j same (inl h) = inl (same_satisfied f v w i j same h)
same_satisfied (or_of f g) v w i j same (inr h) = inr (same_satisfied g v w i j same h)
same_satisfied (implies f g) v w i j same h =
    λ s. same_satisfied g v w i j same (h (same_satisfied f w v j i (flipped same) s))
same_satisfied (iff f g) v w i j same h = (
  λ s. same_satisfied g v w i j same (h.0 (same_satisfied f w v j i (flipped same) s)),
  λ s. same_satisfied f v w i j same (h.1 (same_satisfied g w v j i (flipped same) s)),
)
same_satisfied (next f) v w i j same h = same_satisfied f v w (i + 1) (j + 1) (later v w i j same 1) h
same_satisfied (until f g) v w i j same h =
    reaches_too (Satisfies f v) (Satisfies g v) (Satisfies f w) (Satisfies g w) i j
    (record { each = λ k. same_satisfied f v w (i + k) (j + k) (later v w i j same k) })
    (record { each = λ k. same_satisfied g v w (i + k) (j + k) (later v w i j same k) }) h
same_satisfied (release f g) v w i j same h =
    keeps_too (Satisfies f v) (Satisfies g v) (Satisfies f w) (Satisfies g w) i j
    (record { each = λ k. same_satisfied f v w (i + k) (j + k) (later v w i j same k) })
    (record { each = λ k. same_satisfied g v w (i + k) (j + k) (later v w i j same k) }) h
same_satisfied (weak_until f g) v w i j same h =
    keeps_too (Satisfies g v) (λ k. Satisfies f v k ⊎ Satisfies g v k) (Satisfies g w)
    (λ k. Satisfies f w k ⊎ Satisfies g w k) i j
    (record { each = λ k. same_satisfied g v w (i + k) (j + k) (later v w i j same k) })
    (record {
      each = λ k s. elim s [
        | inl s ↦ inl (same_satisfied f v w (i + k) (j + k) (later v w i j same k) s)
        | inr s ↦ inr (same_satisfied g v w (i + k) (j + k) (later v w i j same k) s)
      ];
    }) h
same_satisfied (finally f) v w i j same h =
    reaches_too (λ _. Unit {0}) (Satisfies f v) (λ _. Unit {0}) (Satisfies f w) i j (record { each = λ k s. s })
    (record { each = λ k. same_satisfied f v w (i + k) (j + k) (later v w i j same k) }) h
same_satisfied (globally f) v w i j same h =
    keeps_too (λ _. ⊥) (Satisfies f v) (λ _. ⊥) (Satisfies f w) i j (record { each = λ k s. s })
    (record { each = λ k. same_satisfied f v w (i + k) (j + k) (later v w i j same k) }) h
