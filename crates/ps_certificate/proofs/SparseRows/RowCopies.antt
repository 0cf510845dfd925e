-- Lemmas about two operations on the counts of a vertex: comparing them with the counts of another vertex, and copying
-- them.
use Rattle.std.proofs.Common.{◌≡◌, ℕ, ◌+◌, ◌-◌, ◌<◌, ◌≤◌, List, [], ◌∷◌, ◌++◌, length, replicate, ap, arith}
use Rattle.std.proofs.Common.{take, inl, inr, rules}
use Rattle.std.proofs.lemmas.Bool.{cases_order, cases_lt}
use Rattle.std.proofs.lemmas.List.{length-append, length-replicate, take_all}
use Rattle.ps_certificate.specs.Sparse.{count_at, dense_row, IsRow, place_at, AreRising, IsFirstFrom, AreAtMost}
use Rattle.ps_certificate.specs.Sparse.{IsFirstAbove}
use Rattle.ps_game.specs.declared.nonzero.NonzeroCount.{NonzeroCount}
use Rattle.ps_certificate.proofs.SparseRows.Sparse.{number_at, count_missing, count_here, row_at, row_to, row_next}
use Rattle.ps_certificate.proofs.SparseRows.Sparse.{place_within, rising, length-counts_from}

-- ## Comparing

-- what the comparison has shown so far: each of the first `number` stored counts whose index is at least `from` is at
-- most the count that the other vertex has at this index. The stored counts after the first `number` have indices of at
-- least `from`.
pub record AreNotAbove (own other : List NonzeroCount) (from number : ℕ) : Type 0 where
  pub within : number ≤ length own
  pub late : (j : ℕ) → number ≤ j → j < length own → from ≤ place_at own j
  pub below : (k : ℕ) → from ≤ k → ((j : ℕ) → number ≤ j → j < length own → k < place_at own j) →
      count_at own k ≤ count_at other k

module _ (own other : List NonzeroCount) (from number : ℕ) where
  pub not_above_start : IsFirstFrom own from number → AreNotAbove own other from number
  not_above_start first = search (rules, count_missing, cases_lt)

  module _ (so_far : AreNotAbove own other from number) where
    pub not_above_end : (width : ℕ) → length own ≤ number →
        AreAtMost (dense_row width own) (dense_row width other) from width
    not_above_end width all k late within = search (rules, row_at)

    module _ (rises : AreRising own) (within : number < length own) where
      pub not_above_next : number_at own number ≤ count_at other (place_at own number) →
          AreNotAbove own other from (number + 1)
      not_above_next at_most = search (rules, cases_order, number_at, count_here, count_missing)

      pub above_here : (width : ℕ) → IsRow width own → count_at other (place_at own number) < number_at own number →
          IsFirstAbove (dense_row width own) (dense_row width other) from (place_at own number)
      above_here width is_row above = grind (arith, place_within, count_here, length-counts_from, row_at, cases_order)

-- ## Copying

-- the list is the beginning of a vertex's full list of counts, and has the first `number` stored counts, but no later
-- ones
pub record IsFilled (width : ℕ) (placed : List NonzeroCount) (list : List ℕ) (number : ℕ) : Type 0 where
  pub list_is : list ≡ dense_row (length list) placed
  pub long : length list ≤ width
  pub before : (i : ℕ) → i < number → place_at placed i < length list
  pub behind : (i : ℕ) → number ≤ i → i < length placed → length list ≤ place_at placed i

-- the code that extends a list with zeros to length n appends exactly the missing zeros
pub resized : (list : List ℕ) (n long : ℕ) → long ≡ length list → length list ≤ n →
    take n list ++ replicate (n - long) 0 ≡ list ++ replicate (n - length list) 0
resized list n long is more = search (rules, take_all)

module _ (width : ℕ) (placed : List NonzeroCount) (list : List ℕ) (number : ℕ)
    (so_far : IsFilled width placed list number) where
  up_to : (to : ℕ) → length list ≤ to → ((i : ℕ) → number ≤ i → i < length placed → to ≤ place_at placed i) →
      list ++ replicate (to - length list) 0 ≡ dense_row to placed
  up_to to far next = search (rules, row_to, cases_lt)

  pub filled_end : length placed ≤ number → list ++ replicate (width - length list) 0 ≡ dense_row width placed
  filled_end all = up_to width so_far.long (λ i late within. absurd (omega (arith, late, within, all)))

  zeros_next : IsRow width placed → number < length placed →
      list ++ replicate (place_at placed number - length list) 0 ≡ dense_row (place_at placed number) placed
  zeros_next is_row within = up_to (place_at placed number) (so_far.behind number (omega arith) within)
      (λ i late i_within. elim (cases_order i number) [
        | inl at ↦ omega (arith, ap (place_at placed) at)
        | inr (inl less) ↦ absurd (omega (arith, less, late))
        | inr (inr more) ↦ omega (arith, rising 0 width placed is_row number i more i_within)
      ])

  pub filled_next : IsRow width placed → number < length placed → IsFilled width placed
      ((list ++ replicate (place_at placed number - length list) 0) ++ number_at placed number ∷ []) (number + 1)
  filled_next is_row within =
      let place = place_at placed number in
      let rises : AreRising placed = rising 0 width placed is_row in
      grind (
        arith,
        place_within 0 width placed number is_row within,
        length-append,
        length-replicate,
        zeros_next,
        count_here,
        row_next,
      )
