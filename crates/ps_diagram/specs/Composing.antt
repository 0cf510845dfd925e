-- Boolean functions (truths) in the place of propositions.
use Rattle.std.specs.Prelude.{◌≡◌, ℕ, ◌<◌, List, is_some, length, slice_index}
use Rattle.ps_label.specs.Truth.{is_in}
use Rattle.ps_diagram.specs.Table.{Table, leaf_of}

-- The letter `whole` has the values of the functions `truths` at `letter`: a proposition is true in it if the
-- proposition's node in `truths` has a leaf at `letter`.
abbrev pub IsLetterOfTruths : Table → List ℕ → ℕ → ℕ → Type 0
IsLetterOfTruths t truths letter whole =
    (p : ℕ) → p < length truths → is_in p whole ≡ is_some (leaf_of t (slice_index truths p) letter)
