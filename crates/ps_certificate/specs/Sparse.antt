-- A vertex's counts, of which only the nonzero ones are stored, each with its index.
use Rattle.std.specs.Prelude.{ℕ, zero, suc, ◌<◌, ◌≤◌, ◌==◌, List, [], ◌∷◌, length, if◌then◌else◌, slice_index}
use Rattle.std.specs.Prelude.{slice_index_or}
use Rattle.ps_game.specs.declared.nonzero.NonzeroCount.{NonzeroCount}

-- a vertex's count at an index: the first stored count with this index, or else 0
abbrev pub count_at : List NonzeroCount → ℕ → ℕ
count_at [] place = 0
count_at (p ∷ ps) place = if p.place == place then p.count else count_at ps place

-- the list of a vertex's `n` counts from index `place` on, including the counts that are not stored because they are 0
abbrev pub counts_from : List NonzeroCount → ℕ → ℕ → List ℕ
counts_from placed zero place = []
counts_from placed (suc n) place = count_at placed place ∷ counts_from placed n (suc place)

-- the full list of a vertex's `width` counts, including those that are not stored because they are 0
abbrev pub dense_row : ℕ → List NonzeroCount → List ℕ
dense_row width placed = counts_from placed width 0

-- the indices of the stored counts ascend, are at least `from`, and are less than the number `width` of counts
abbrev pub Rises : ℕ → ℕ → List NonzeroCount → Type 0
Rises from width [] = Unit {0}
Rises from width (p ∷ ps) = (from ≤ p.place) × (p.place < width) × Rises (suc p.place) width ps

-- the indices of the stored counts ascend, and are less than the number `width` of counts
abbrev pub IsRow : ℕ → List NonzeroCount → Type 0
IsRow width placed = Rises 0 width placed

-- the index of the i-th stored count
abbrev pub place_at : List NonzeroCount → ℕ → ℕ
place_at placed i = (slice_index_or placed i (record { place = 0; count = 0 })).place

-- the indices of the stored counts ascend
abbrev pub AreRising : List NonzeroCount → Type 0
AreRising placed = (i j : ℕ) → i < j → j < length placed → place_at placed i < place_at placed j

-- the first `number` stored counts have indices less than `place`
pub record AreBefore (placed : List NonzeroCount) (place number : ℕ) : Type 0 where
  pub within : number ≤ length placed
  pub below : (i : ℕ) → i < number → place_at placed i < place

-- the number of stored counts whose index is less than `place`
pub record IsFirstFrom (placed : List NonzeroCount) (place number : ℕ) : Type 0 where
  pub before : AreBefore placed place number
  pub behind : (i : ℕ) → number ≤ i → i < length placed → place ≤ place_at placed i

-- from index `from` up to, but not including, index `end`, no count of the first list is greater than the second list's
-- count at the same index
abbrev pub AreAtMost : List ℕ → List ℕ → ℕ → ℕ → Type 0
AreAtMost counts others from end = (k : ℕ) → from ≤ k → k < end → slice_index counts k ≤ slice_index others k

-- the first index, at `from` or later, at which the first list's count is greater than the second list's count
pub record IsFirstAbove (counts others : List ℕ) (from place : ℕ) : Type 0 where
  pub from_there : from ≤ place
  pub within : place < length counts
  pub above : slice_index others place < slice_index counts place
  pub earlier : AreAtMost counts others from place
