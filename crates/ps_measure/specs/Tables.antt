-- Rows of counts; each row is stored as a chain (linked list) of cells. The number of the first cell of a vertex's
-- chain determines the counts of the vertex. Cell i has the number i + 1, and the number 0 ends a chain.
use Rattle.std.specs.Prelude.{◌≡◌, ℕ, zero, suc, ◌+◌, ◌<◌, ◌≤◌, ◌==◌, List, length, map, max, Option, None, Some}
use Rattle.std.specs.Prelude.{if◌then◌else◌, slice_get, slice_index}
use Rattle.std.specs.List.{range_with_len}
use Rattle.ps_measure.specs.declared.table.CountCell.{CountCell}
use Rattle.ps_measure.specs.Ranks.{count_of, width_of, AreRows}

abbrev pub next_cell : Option CountCell → ℕ
next_cell None = 0
next_cell (Some cell) = cell.next

abbrev pub count_here : Option CountCell → ℕ → ℕ
count_here None k = 0
count_here (Some cell) k = if cell.place == k then cell.count else 0

-- the greatest count for index k in the first `fuel` cells of the chain whose first cell has the number `number`
unfoldable pub count_from : List CountCell → ℕ → ℕ → ℕ → ℕ
count_from cells zero number k = 0
count_from cells (suc fuel) zero k = 0
count_from cells (suc fuel) (suc i) k =
    max (count_here (slice_get cells i) k) (count_from cells fuel (next_cell (slice_get cells i)) k)

-- the row of counts that a chain stores
abbrev pub row_from : ℕ → List CountCell → ℕ → List ℕ
row_from width cells head = map (count_from cells head head) (range_with_len 0 width)

-- for each given first cell of a chain, the row of counts that the chain stores
unfoldable pub rows_in : ℕ → List ℕ → List CountCell → List (List ℕ)
rows_in width heads cells = map (row_from width cells) heads

-- the cell that follows a cell in a chain is earlier in the list of cells, and has a smaller `place`. Each cell's
-- `place`, an index into a row, is less than the width of the rows. No cell has the count 0.
pub record AreChained (width : ℕ) (cells : List CountCell) : Type 0 where
  pub falls : (i : ℕ) (cell : CountCell) → slice_get cells i ≡ Some cell → cell.next ≤ i
  pub places : (i : ℕ) (cell : CountCell) → slice_get cells i ≡ Some cell → cell.place < width
  pub lower : (i j : ℕ) (cell other : CountCell) → slice_get cells i ≡ Some cell → slice_get cells j ≡ Some other →
      cell.next ≡ j + 1 → other.place < cell.place
  pub some : (i : ℕ) (cell : CountCell) → slice_get cells i ≡ Some cell → 0 < cell.count

-- each vertex's chain is empty or begins with a cell of the list
pub record AreHeaded (width : ℕ) (heads : List ℕ) (cells : List CountCell) : Type 0 where
  pub chained : AreChained width cells
  pub first : (v : ℕ) → slice_index heads v ≤ length cells

-- `count` rows of `width` counts, each of them 0
pub record AreZero (rows : List (List ℕ)) (count width : ℕ) : Type 0 where
  pub shape : AreRows rows count width
  pub none : (v k : ℕ) → count_of rows v k ≡ 0

-- one count of one vertex was raised to the given value, if it was less, and no other count changed
pub record HasPut (old new : List (List ℕ)) (vertex place count : ℕ) : Type 0 where
  pub each : length new ≡ length old
  pub wide : (v : ℕ) → width_of new v ≡ width_of old v
  pub here : count_of new vertex place ≡ max count (count_of old vertex place)
  pub others : (v k : ℕ) → (v ≡ vertex → k ≡ place → ⊥) → count_of new v k ≡ count_of old v k

-- in all rows, the count at index `place` was replaced, and no other count changed
pub record HasColumn (old new : List (List ℕ)) (place : ℕ) (counts : ℕ → ℕ) : Type 0 where
  pub each : length new ≡ length old
  pub wide : (v : ℕ) → width_of new v ≡ width_of old v
  pub here : (v : ℕ) → count_of new v place ≡ counts v
  pub others : (v k : ℕ) → (k ≡ place → ⊥) → count_of new v k ≡ count_of old v k
