-- Two lists with the same entries, in the same ascending order, are equal.
use Rattle.std.proofs.Common.{rules, ◌≡◌, ℕ, suc, ◌<◌, ◌⊎◌, inl, inr, List, [], ◌∷◌, refl, ap₂, sym, arith}
use Rattle.std.specs.List.{AllPairs, Contains}

-- an entry of a list is its head, or an entry of its tail
pub in_cons : {x z : ℕ} (xs : List ℕ) → Contains (x ∷ xs) z → (x ≡ z) ⊎ Contains xs z
in_cons xs h = search rules

into_cons : (x z : ℕ) (xs : List ℕ) → Contains xs z → Contains (x ∷ xs) z
into_cons x z xs c = (suc c.0, omega (arith, c.1), c.2)

pub none_in : (z : ℕ) → Contains [] z → ⊥
none_in z c = omega (arith, c.1)

abbrev pub Within : List ℕ → List ℕ → Type 0
Within xs ys = (z : ℕ) → Contains xs z → Contains ys z

-- in the following lemmas, `Before` is any asymmetric relation: if x comes before y, then y does not come before x
module _ (Before : ℕ → ℕ → Type 0) (one_way : (x y : ℕ) → Before x y → Before y x → ⊥) where
  rising_tail : (x : ℕ) (xs : List ℕ) → AllPairs Before (x ∷ xs) → AllPairs Before xs
  rising_tail x xs r i j d less within = r (suc i) (suc j) d (omega arith) (omega arith)

  before_others : (x z : ℕ) (xs : List ℕ) → AllPairs Before (x ∷ xs) → Contains xs z → Before x z
  before_others x z xs r c = rw c.2 at (r 0 (suc c.0) z (omega arith) (omega (arith, c.1)))

  heads_same : (x y : ℕ) (xs ys : List ℕ) → AllPairs Before (x ∷ xs) → AllPairs Before (y ∷ ys) →
      Within (x ∷ xs) (y ∷ ys) → Within (y ∷ ys) (x ∷ xs) → x ≡ y
  heads_same x y xs ys r s a b = elim (in_cons ys (a x (0, omega arith, refl))) [
    | inl same ↦ sym same
    | inr later ↦ elim (in_cons xs (b y (0, omega arith, refl))) [
      | inl same ↦ same
      | inr too ↦ absurd (one_way x y (before_others x y xs r too) (before_others y x ys s later))
    ]
  ]

  tails_within : {x y : ℕ} (xs ys : List ℕ) → x ≡ y → AllPairs Before (x ∷ xs) → Within (x ∷ xs) (y ∷ ys) → Within xs ys
  tails_within {x} xs ys same r a z c = grind (arith, in_cons ys (a z (into_cons x z xs c)), before_others x z xs r c)

  pub same_rising : (xs ys : List ℕ) → AllPairs Before xs → AllPairs Before ys → Within xs ys → Within ys xs → xs ≡ ys
  same_rising [] [] r s a b = refl
  same_rising [] (y ∷ ys) r s a b = absurd (none_in y (b y (0, omega arith, refl)))
  same_rising (x ∷ xs) [] r s a b = absurd (none_in x (a x (0, omega arith, refl)))
  same_rising (x ∷ xs) (y ∷ ys) r s a b =
      let same = heads_same x y xs ys r s a b in
      ap₂ (λ (z : ℕ) (zs : List ℕ). z ∷ zs) same (same_rising xs ys (rising_tail x xs r) (rising_tail y ys s)
      (tails_within xs ys same r a) (tails_within ys xs (sym same) s b))

-- ## Numbers

one_below : (x y : ℕ) → x < y → y < x → ⊥
one_below x y less more = omega arith

pub same_numbers : {xs ys : List ℕ} → AllPairs (λ x y. x < y) xs → AllPairs (λ x y. x < y) ys →
    Within xs ys → Within ys xs → xs ≡ ys
same_numbers {xs} {ys} r s a b = same_rising (λ x y. x < y) one_below xs ys r s a b
