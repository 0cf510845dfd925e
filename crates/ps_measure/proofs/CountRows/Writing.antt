-- The entries of a list of numbers after one number was replaced, and the entries of a list of zeros.
use Rattle.std.proofs.Common.{rules, ◌≡◌, ◌≢◌, ℕ, ◌<◌, ◌⊎◌, inl, inr, ◌∙◌, arith, List, length, replicate, ◌++◌, ◌∷◌, []}
use Rattle.std.specs.Prelude.{slice_index, slice_set}
use Rattle.std.proofs.lemmas.Bool.{cases_eq, cases_lt}
use Rattle.std.proofs.lemmas.List.{get_or_append_left, get_or_push, length_push}
use Rattle.std.proofs.lemmas.List.{get_or-set_same, get_or-set_other, get_or-replicate, get_or_past, length-replicate}

-- after a write, the new number is at the written index, and the numbers at all other indices are unchanged
pub written : (xs : List ℕ) (i x j : ℕ) → i < length xs → ((j ≡ i) × (slice_index (slice_set xs i x) j ≡ x)) ⊎
    ((j ≢ i) × (slice_index (slice_set xs i x) j ≡ slice_index xs j))
written xs i x j within = search (rules, cases_eq, get_or-set_same, get_or-set_other)

pub zeros_at : (n i : ℕ) → slice_index (replicate n 0) i ≡ 0
zeros_at n i = search (rules, cases_lt, get_or-replicate, get_or_past, length-replicate)

pub zeros_and_zero : (n i : ℕ) → slice_index (replicate n 0 ++ 0 ∷ []) i ≡ 0
zeros_and_zero n i = elim (cases_lt i n) [
  | inl inside ↦ get_or_append_left (replicate n 0) (0 ∷ []) 0 i (omega (arith, inside, length-replicate {A = ℕ} n 0))
      ∙ zeros_at n i
  | inr behind ↦ elim (cases_eq i n) [
    | inl last ↦ get_or_push (replicate n 0) 0 0 i (omega (arith, last, length-replicate {A = ℕ} n 0))
    | inr past ↦ get_or_past (replicate n 0 ++ 0 ∷ []) i 0
        (omega (arith, behind, past, length_push {X = ℕ} (replicate n 0) 0, length-replicate {A = ℕ} n 0))
  ]
]
