-- Lemmas about lists without repeats, for instance the keys of a set, and about lists to which one entry is appended.
use Rattle.std.proofs.Common.{◌≡◌, ℕ, zero, suc, ◌<◌, ◌⊎◌, inl, inr, Bool, true, List, [], ◌∷◌, ◌++◌, Some, sym, ap}
use Rattle.std.proofs.Common.{◌∙◌, arith, length, refl}
use Rattle.std.specs.List.{slice_get, IsDistinct}
use Rattle.std.specs.Bool.{Decides}
use Rattle.std.proofs.lemmas.Bool.{cases_order}
use Rattle.std.proofs.lemmas.Option.{slice_get_within, get_or_from_slice_get}
use Rattle.std.proofs.lemmas.Map.Made.{AllPairs-from_IsDistinct}
use Rattle.indexmap.specs.IndexSet.{insert_key}

pub at_left : {X : Type 0} (xs ys : List X) (i : ℕ) {x : X} → slice_get xs i ≡ Some x → slice_get (xs ++ ys) i ≡ Some x
at_left [] ys i e = cc
at_left (y ∷ xs) ys zero e = e
at_left (y ∷ xs) ys (suc i) e = at_left xs ys i e

pub at_end : {X : Type 0} (xs : List X) (y : X) → slice_get (xs ++ y ∷ []) (length xs) ≡ Some y
at_end [] y = refl
at_end (x ∷ xs) y = at_end xs y

-- if y is appended to a list, each entry of the result is an old entry or y
pub at_last : {X : Type 0} (xs : List X) (y : X) (i : ℕ) {x : X} → slice_get (xs ++ y ∷ []) i ≡ Some x →
    (slice_get xs i ≡ Some x) ⊎ ((x ≡ y) × (i ≡ length xs))
at_last [] y zero e = inr (cc, refl)
at_last [] y (suc i) e = cc
at_last (z ∷ xs) y zero e = inl e
at_last (z ∷ xs) y (suc i) e = elim (at_last xs y i e) [ inl h ↦ inl h | inr h ↦ inr (h.0, ap suc h.1) ]

pub inserted_keeps : {X : Type 0} (eq : X → X → Bool) (xs : List X) (k : X) (i : ℕ) {x : X} → slice_get xs i ≡ Some x →
    slice_get (insert_key eq xs k) i ≡ Some x
inserted_keeps eq xs k i e = grind (arith, at_left xs (k ∷ []) i e)

-- after an insertion into a list without repeats, each entry is an old entry or the inserted one
pub inserted_is : {X : Type 0} (eq : X → X → Bool) (xs : List X) (k : X) (i : ℕ) {x : X} →
    slice_get (insert_key eq xs k) i ≡ Some x → (slice_get xs i ≡ Some x) ⊎ (x ≡ k)
inserted_is eq xs k i e = grind (arith, at_last xs k i)

module _ {X : Type 0} (eq : X → X → Bool) (same : (a b : X) → Decides (eq a b) (a ≡ b)) (xs : List X)
    (distinct : IsDistinct eq xs) where
  not_before : (i j : ℕ) {x : X} → i < j → slice_get xs i ≡ Some x → slice_get xs j ≡ Some x → ⊥
  not_before i j {x} less a b = AllPairs-from_IsDistinct same xs distinct i j x less (slice_get_within xs j x b)
      (get_or_from_slice_get xs i x x a ∙ sym (get_or_from_slice_get xs j x x b))

  pub one_place : (i j : ℕ) {x : X} → slice_get xs i ≡ Some x → slice_get xs j ≡ Some x → i ≡ j
  one_place i j a b = grind (arith, cases_order, not_before)

-- if the equality test is true of an inserted key and a stored key, the two keys are equal
pub stored_is : {X : Type 0} (eq : X → X → Bool) (same : (a b : X) → Decides (eq a b) (a ≡ b)) (xs : List X) (i : ℕ)
    (x : X) → ((k : X) × (slice_get xs i ≡ Some k) × (eq x k ≡ true)) → slice_get xs i ≡ Some x
stored_is eq same xs i x s = cc (s.1, (same x s.0).0 s.2)
