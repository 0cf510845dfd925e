-- Lemmas about ascending lists, about binary searches in ascending lists, and about parts of lists.
use Rattle.std.proofs.Common.{◌≡◌, ℕ, ◌-◌, ◌<◌, ◌≤◌, leb, ltb, List, length, get_or, arith, zero, suc, Result, true}
use Rattle.std.proofs.Common.{false, replicate, rules}
use Rattle.std.specs.Bool.{Decides}
use Rattle.std.specs.Prelude.{slice_index}
use Rattle.std.specs.List.{Contains}
use Rattle.std.specs.List.Sorted.{IsStrictlyIncreasing, IsBinarySearchResult}
use Rattle.std.specs.Ordering.{nat_cmp}
use Rattle.std.specs.Result.{MatchResult}
use Rattle.std.proofs.lemmas.List.{get_or_default}
use Rattle.std.proofs.lemmas.List.Kept.{AllPairs-from_increasing}
use Rattle.std.proofs.lemmas.List.Sorted.{searched}
use Rattle.std.proofs.lemmas.Bool.{cases_lt, cases_eq, leb-true, ltb-true, le-leb, lt-ltb}

-- in an ascending list each number is less than each later one
pub rising_far : (xs : List ℕ) → IsStrictlyIncreasing xs → (i j : ℕ) → i < j → j < length xs →
    slice_index xs i < slice_index xs j
rising_far xs rising i j less within = AllPairs-from_increasing xs rising i j 0 less within

pub rising_near : (xs : List ℕ) → IsStrictlyIncreasing xs → (i j : ℕ) → i ≤ j → j < length xs →
    slice_index xs i ≤ slice_index xs j
rising_near xs rising i j at_most within = search (rules, cases_eq, rising_far)

-- the number before index `place` of an ascending list is less than x exactly if all numbers before this index are
pub less_before : (xs : List ℕ) (x place : ℕ) → IsStrictlyIncreasing xs → place ≤ length xs → (place ≡ 0 → ⊥) →
    Decides (ltb (get_or xs (place - 1) 0) x) ((k : ℕ) → k < place → slice_index xs k < x)
less_before xs x place rising within some = (
  λ e k less. omega (
    arith,
    ltb-true (get_or xs (place - 1) 0) x e,
    rising_near xs rising k (place - 1) (omega (arith, less)) (omega (arith, within, some)),
  ),
  λ all. lt-ltb (get_or xs (place - 1) 0) x (all (place - 1) (omega (arith, some))),
)

-- the number at index `place` of an ascending list is at least x exactly if all numbers from this index on are
pub not_less_from : (xs : List ℕ) (x place : ℕ) → IsStrictlyIncreasing xs → place < length xs →
    Decides (leb x (get_or xs place 0)) ((k : ℕ) → place ≤ k → k < length xs → x ≤ slice_index xs k)
not_less_from xs x place rising inside = (
  λ e k late within. omega (
    arith,
    leb-true x (get_or xs place 0) e,
    rising_near xs rising place k late within,
  ),
  λ all. le-leb x (get_or xs place 0) (all place (omega arith) inside),
)

-- the result of a binary search tells whether, and at which index, an ascending list has the number
pub search_result : (xs : List ℕ) (x : ℕ) (r : Result ℕ ℕ) → IsStrictlyIncreasing xs →
    IsBinarySearchResult (λ y. nat_cmp y x) xs r → MatchResult r (λ i. (i < length xs) × (get_or xs i 0 ≡ x)) (λ i.
    (i ≤ length xs) × ((k : ℕ) → k < i → get_or xs k 0 < x) × ((k : ℕ) → i ≤ k → k < length xs → x < get_or xs k 0))
search_result xs x r rising answer = searched xs x r answer (rising_near xs rising)

-- if the numbers before some index are smaller than x, and all others are greater, x is not in the list
pub not_between : (xs : List ℕ) (x i : ℕ) → ((k : ℕ) → k < i → get_or xs k 0 < x) →
    ((k : ℕ) → i ≤ k → k < length xs → x < get_or xs k 0) → Contains xs x → ⊥
not_between xs x i below above (k, within, is) = grind (arith, get_or_default xs k 0 x within, cases_lt k i)

-- a new table of marks has only unset marks
pub nothing_marked : (n k : ℕ) → get_or (replicate n false) k false ≡ true → ⊥
nothing_marked zero k marked = cc
nothing_marked (suc n) zero marked = cc
nothing_marked (suc n) (suc k) marked = nothing_marked n k marked
