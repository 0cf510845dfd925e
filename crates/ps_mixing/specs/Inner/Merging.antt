-- Two ascending lists of propositions in one.
-- - `owned_below f n`, `is_by`: the lists
-- - `AreMerged is_own others own i j from`: `from` has the first i numbers of the one list and the first j of the other
-- - `IsMergedOrder n is_own from`: `from` lists the n propositions, those of each player in ascending order
-- - `ArePlaces from to`: the table `to` has the place of each number of the list
use Rattle.std.specs.Prelude.{◌≡◌, ℕ, zero, suc, ◌+◌, ◌<◌, ◌⊎◌, Bool, true, false, not, cond, List, [], ◌∷◌, ◌++◌}
use Rattle.std.specs.Prelude.{length, slice_index_or}
use Rattle.std.specs.List.{All, AllPairs, Contains}

-- p is among the first i numbers of the list
abbrev pub IsEarlier : List ℕ → ℕ → ℕ → Type 0
IsEarlier list i p = (k : ℕ) × (k < i) × ((d : ℕ) → slice_index_or list k d ≡ p)

pub record IsMergedOrder (n : ℕ) (is_own : ℕ → Bool) (from : List ℕ) : Type 0 where
  pub count : length from ≡ n
  pub below : All (λ p. p < n) from
  pub whole : (p : ℕ) → p < n → Contains from p
  pub order : AllPairs (λ p q. is_own p ≡ is_own q → p < q) from

-- the numbers below n that have the property, in ascending order
abbrev pub owned_below : (ℕ → Bool) → ℕ → List ℕ
owned_below f zero = []
owned_below f (suc n) = owned_below f n ++ cond (f n) (n ∷ []) []

abbrev pub is_by : Bool → Bool → Bool
is_by true own = own
is_by false own = not own

-- ascending lists of the one player's propositions and of the other's
pub record CanMerge (is_own : ℕ → Bool) (others own : List ℕ) : Type 0 where
  pub others_rise : AllPairs (λ p q. p < q) others
  pub own_rise : AllPairs (λ p q. p < q) own
  pub not_own : All (λ p. is_own p ≡ false) others
  pub are_own : All (λ p. is_own p ≡ true) own

pub record AreMerged (is_own : ℕ → Bool) (others own : List ℕ) (i j : ℕ) (from : List ℕ) : Type 0 where
  pub count : length from ≡ i + j
  pub whole_others : (k d : ℕ) → k < i → Contains from (slice_index_or others k d)
  pub whole_own : (k d : ℕ) → k < j → Contains from (slice_index_or own k d)
  pub each : All (λ p. IsEarlier others i p ⊎ IsEarlier own j p) from
  pub order : AllPairs (λ p q. is_own p ≡ is_own q → p < q) from

pub record ArePlaces (from to : List ℕ) : Type 0 where
  pub count : length to ≡ length from
  pub places : (k d e : ℕ) → k < length from → slice_index_or to (slice_index_or from k d) e ≡ k
