-- Looking up the index of a cell.
use Rattle.std.specs.Prelude.{◌≡◌, ◌^◌, ◌-◌, ◌<◌, ℕ, ◌⊎◌, IfOk, List, [], ◌∷◌, ◌++◌, OnErr, OnOk, Result, Some}
use Rattle.std.specs.Prelude.{slice_get}
use Rattle.ps_diagram.specs.declared.view.View.{View}
use Rattle.ps_diagram.specs.declared.view.View.TheVariants.{Leaf}

-- looking up a cell changes the list of cells only if it lacks the cell, which is then appended
abbrev pub AddsCell : List View → View → List View → Type 0
AddsCell old cell new =
    (new ≡ old) ⊎ ((new ≡ old ++ cell ∷ []) × ((place : ℕ) → slice_get old place ≡ Some cell → ⊥))

-- the result is the index of the cell in the new list, to which the cell is appended if the old list lacks it; a call
-- that fails changes nothing
pub record PlacesCell {E : Type 0} (old new : List View) (cell : View) (result : Result ℕ E) : Type 0 where
  pub adds : OnOk result (AddsCell old cell new)
  pub there : IfOk result (λ place. slice_get new place ≡ Some cell)
  pub err : OnErr result (new ≡ old)

-- if the table has a number less than 2^32 - 1 for a leaf, this is the index of the leaf's cell
abbrev pub ArePlacesOfLeaves : List View → List ℕ → Type 0
ArePlacesOfLeaves cells places = (leaf place : ℕ) → slice_get places leaf ≡ Some place → place < 2 ^ 32 - 1 →
    slice_get cells place ≡ Some (Leaf leaf)
