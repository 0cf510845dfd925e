-- Linked lists (chains) of cells that hold the counts of vertices: the counts of a chain that begins with a newly
-- appended cell, and the rows of counts that the chains store.
use Rattle.std.proofs.Common.{◌≡◌, ◌≢◌, ℕ, zero, suc, ◌+◌, ◌-◌, ◌<◌, ◌≤◌, ◌==◌, ◌∙◌, ◌++◌, ◌∷◌, [], List, length, map}
use Rattle.std.proofs.Common.{max, get_or, inl, inr, refl, sym, ap, add-one, arith, Option, Some, cond}
use Rattle.std.proofs.Common.{replicate, rules}
use Rattle.std.specs.Prelude.{slice_get, slice_index, slice_set}
use Rattle.std.proofs.Math.Nat.{zero-max}
use Rattle.std.proofs.lemmas.Bool.{cases_eq, cases_lt, ne_eqb, eq-eqb}
use Rattle.std.proofs.lemmas.List.{get_or_past, get_or-set_same, get_or-set_other, length-map, length-set, length_push}
use Rattle.std.proofs.lemmas.List.{get_or-map, length-replicate}
use Rattle.std.proofs.lemmas.List.FromFn.{fill_by_all, get_or-map-range_with_len, length-map-range_with_len}
use Rattle.std.proofs.lemmas.Option.{slice_get-get_or, slice_get_past, slice_get_within}
use Rattle.ps_components.proofs.Places.{slice_get-append_left, slice_get-push, slice_get-push_cases}
use Rattle.ps_measure.specs.declared.table.CountCell.{CountCell}
use Rattle.ps_measure.specs.Ranks.{count_of, width_of, width_in}
use Rattle.ps_measure.specs.Tables.{next_cell, count_here, count_from, row_from, rows_in, AreChained, AreHeaded}
use Rattle.ps_measure.specs.Tables.{AreZero}
use Rattle.ps_measure.specs.Tables.{HasPut}
use Rattle.ps_measure.proofs.CountRows.Writing.{written, zeros_at}

pub from_none : (cells : List CountCell) (fuel k : ℕ) → count_from cells fuel zero k ≡ 0
unfolding count_from
from_none cells fuel k = search rules

pub no_fuel : (cells : List CountCell) (n k : ℕ) → count_from cells zero n k ≡ 0
unfolding count_from
no_fuel cells n k = refl

pub from_cell : (cells : List CountCell) (fuel i k : ℕ) (o : Option CountCell) → slice_get cells i ≡ o →
    count_from cells (suc fuel) (suc i) k ≡ max (count_here o k) (count_from cells fuel (next_cell o) k)
unfolding count_from
from_cell cells fuel i k o is = ap (λ p. max (count_here p k) (count_from cells fuel (next_cell p) k)) is

next_falls : (cells : List CountCell) → ((i : ℕ) (cell : CountCell) → slice_get cells i ≡ Some cell → cell.next ≤ i) →
    (i : ℕ) (o : Option CountCell) → slice_get cells i ≡ o → next_cell o ≤ i
next_falls cells h i o k = search rules

module _ (cells : List CountCell)
    (falls : (i : ℕ) (cell : CountCell) → slice_get cells i ≡ Some cell → cell.next ≤ i) where
  -- `count_from` reads at most as many cells of a chain as its limit; it reads the same count for all limits that are
  -- at least the number of the chain's first cell
  pub any_fuel : (f g n k : ℕ) → n ≤ f → n ≤ g → count_from cells f n k ≡ count_from cells g n k
  any_fuel f g zero k a b = from_none cells f k ∙ sym (from_none cells g k)
  any_fuel zero g (suc i) k a b = absurd (omega arith)
  any_fuel (suc f) zero (suc i) k a b = absurd (omega arith)
  any_fuel (suc f) (suc g) (suc i) k a b =
      let less = next_falls cells falls i (slice_get cells i) refl in
      search (
        rules,
        from_cell,
        any_fuel f g (next_cell (slice_get cells i)) k (omega (arith, less, a)) (omega (arith, less, b)),
      )

  -- at each index of a row, the count that a chain gives is the greater of what its first cell gives and what the cells
  -- after it give
  pub from_number : (i k : ℕ) (cell : CountCell) → slice_get cells i ≡ Some cell →
      count_from cells (suc i) (suc i) k ≡ max (count_here (Some cell) k) (count_from cells cell.next cell.next k)
  from_number i k cell at = search (rules, from_cell, any_fuel)

  -- appending a cell to the list of cells does not change the counts of the existing chains
  pub from_longer : (cell : CountCell) (f n k : ℕ) → n ≤ length cells →
      count_from (cells ++ cell ∷ []) f n k ≡ count_from cells f n k
  from_longer cell f zero k within = from_none (cells ++ cell ∷ []) f k ∙ sym (from_none cells f k)
  from_longer cell zero (suc i) k within = search (rules, no_fuel)
  from_longer cell (suc f) (suc i) k within =
      let old = get_or cells i cell in
      let at : slice_get cells i ≡ Some old = slice_get-get_or cells i cell (omega arith) in
      let less = falls i old at in
      search (rules, from_cell, slice_get-append_left, from_longer cell f old.next k (omega (arith, less, within)))

  -- at index k of a row, the count of the chain that begins with the newly appended cell is the greater of what this
  -- cell gives and what the cells after it give
  pub from_new : (cell : CountCell) (k : ℕ) → cell.next ≤ length cells →
      count_from (cells ++ cell ∷ []) (suc (length cells)) (suc (length cells)) k
      ≡ max (count_here (Some cell) k) (count_from cells cell.next cell.next k)
  from_new cell k within = search (rules, from_cell, slice_get-push, from_longer, any_fuel)

-- ## Adding one cell of a chain to a row

abbrev pub cell_at : List CountCell → ℕ → CountCell
cell_at cells n = get_or cells (n - 1) (record { place = 0; count = 0; next = 0 })

module _ {width : ℕ} {cells : List CountCell} {n : ℕ} (chained : AreChained width cells) (some : 0 < n)
    (first : n ≤ length cells) where
  abbrev pub cell_here : CountCell
  cell_here = cell_at cells n

  pub there : slice_get cells (n - 1) ≡ Some cell_here
  there = slice_get-get_or cells (n - 1) (record { place = 0; count = 0; next = 0 }) (omega (arith, some, first))

  pub next_below : cell_here.next < n
  next_below = omega (arith, some, chained.falls (n - 1) cell_here there)

  pub place_below : cell_here.place < width
  place_below = chained.places (n - 1) cell_here there

  abbrev pub behind : ℕ → ℕ
  behind k = count_from cells cell_here.next cell_here.next k

  pub here_and_behind : (k : ℕ) → count_from cells n n k ≡ max (count_here (Some cell_here) k) (behind k)
  here_and_behind k = grind (arith, from_number cells chained.falls (n - 1) k cell_here there)

  -- after the count of one cell of a chain was merged into a row, only the counts of the cells after this one remain to
  -- be merged
  pub row_step : (row new : List ℕ) →
      slice_index new cell_here.place ≡ max (slice_index row cell_here.place) cell_here.count →
      ((k : ℕ) → k ≢ cell_here.place → slice_index new k ≡ slice_index row k) → (k : ℕ) →
      max (slice_index new k) (behind k) ≡ max (slice_index row k) (count_from cells n n k)
  row_step row new here others k = search (rules, cases_eq, here_and_behind, eq-eqb, ne_eqb)

-- ## The rows

module _ (width : ℕ) (heads : List ℕ) (cells : List CountCell) where
  pub rows_each : length (rows_in width heads cells) ≡ length heads
  unfolding rows_in
  rows_each = length-map heads (row_from width cells)

  pub row_at : (v : ℕ) → v < length heads →
      slice_get (rows_in width heads cells) v ≡ Some (row_from width cells (slice_index heads v))
  unfolding rows_in
  row_at v below = slice_get-get_or (map (row_from width cells) heads) v
      [] (omega (arith, below, length-map heads (row_from width cells))) ∙ ap Some (grind (arith, get_or-map))

  pub width_at : (v : ℕ) → v < length heads → width_of (rows_in width heads cells) v ≡ width
  width_at v below = search (rules, row_at, length-map-range_with_len)

  pub width_past : (v : ℕ) → length heads ≤ v → width_of (rows_in width heads cells) v ≡ 0
  width_past v past = ap width_in (slice_get_past (rows_in width heads cells) v (omega (arith, past, rows_each)))

  pub count_at : (v k : ℕ) → v < length heads → k < width →
      count_of (rows_in width heads cells) v k ≡ count_from cells (slice_index heads v) (slice_index heads v) k
  count_at v k below within = search (rules, row_at, get_or-map-range_with_len)

  pub count_past : (v k : ℕ) → length heads ≤ v → count_of (rows_in width heads cells) v k ≡ 0
  count_past v k past = search (rules, slice_get_past, rows_each)

  pub count_behind : (v k : ℕ) → v < length heads → width ≤ k → count_of (rows_in width heads cells) v k ≡ 0
  count_behind v k below past = search (rules, row_at, get_or_past, length-map-range_with_len)

-- ## One more count

-- the number of a vertex's first cell, if it has one, stands for a cell with a smaller `place`
abbrev pub IsLastPlace : List ℕ → List CountCell → ℕ → ℕ → Type 0
IsLastPlace heads cells vertex place = (j : ℕ) (other : CountCell) → slice_get cells j ≡ Some other →
    slice_index heads vertex ≡ j + 1 → other.place < place

-- the counts of a vertex from an index on are 0 only if the places of the vertex's cells are less than this index
pub last_place : (width : ℕ) (heads : List ℕ) (cells : List CountCell) (vertex place : ℕ) →
    AreHeaded width heads cells → vertex < length heads →
    ((k : ℕ) → place ≤ k → count_of (rows_in width heads cells) vertex k ≡ 0) → IsLastPlace heads cells vertex place
last_place width heads cells vertex place headed below none j other at is = elim (cases_lt other.place place) [
  | inl less ↦ less
  | inr late ↦ absurd (grind (
    arith,
    none other.place late,
    count_at width heads cells vertex other.place below (headed.chained.places j other at),
    from_number cells headed.chained.falls j other.place other at,
    headed.chained.some j other at,
    add-one j,
  ))
]

module _ {width : ℕ} {heads : List ℕ} {cells : List CountCell} {vertex place : ℕ} (headed : AreHeaded width heads cells)
    (count : ℕ) (below : vertex < length heads) (within : place < width) (last : IsLastPlace heads cells vertex place)
    (some : 0 < count) where
  abbrev cell : CountCell
  cell = record { place = place; count = count; next = slice_index heads vertex }

  abbrev new_heads : List ℕ
  new_heads = slice_set heads vertex (length cells + 1)

  abbrev new_cells : List CountCell
  new_cells = cells ++ cell ∷ []

  -- the new cell has a greater `place` than the cell that follows it, which was the first of the vertex's chain
  new_lower : (i j : ℕ) (one other : CountCell) → slice_get new_cells i ≡ Some one →
      slice_get new_cells j ≡ Some other → one.next ≡ j + 1 → other.place < one.place
  new_lower i j one other at at_other next =
      elim (slice_get-push_cases cells cell i one at) [
        | inl old ↦ elim (slice_get-push_cases cells cell j other at_other) [
          | inl old_other ↦ headed.chained.lower i j one other old old_other next
          | inr new ↦ absurd (omega (
            arith,
            headed.chained.falls i one old,
            slice_get_within cells i one old,
            next,
            new.0,
          ))
        ]
        | inr new ↦ elim (slice_get-push_cases cells cell j other at_other) [
          | inl old_other ↦ grind (arith, last j other old_other)
          | inr new_other ↦ grind (arith, headed.first vertex)
        ]
      ]

  pub put_headed : AreHeaded width new_heads new_cells
  put_headed = search (rules, slice_get-push_cases, written, length_push, new_lower)

  pub put_done : HasPut (rows_in width heads cells) (rows_in width new_heads new_cells) vertex place count
  put_done = record {
    each = rows_each width new_heads new_cells ∙ as_many ∙ sym (rows_each width heads cells);
    wide = search (rules, cases_lt, width_at, width_past);
    here = search (rules, at_vertex, old, eq-eqb);
    others = λ v k other. elim (cases_lt v (length heads)) [
      | inr past ↦ search (rules, count_past)
      | inl less ↦ elim (cases_lt k width) [
        | inr far ↦ search (rules, count_behind)
        | inl inside ↦ elim (cases_eq v vertex) [
          | inl same ↦ grind (arith, at_vertex k inside, zero-max (count_of old vertex k))
          | inr apart ↦ search (rules, count_at, get_or-set_other, from_longer)
        ]
      ]
    ];
  }
    where
      old : List (List ℕ)
      old = rows_in width heads cells

      as_many : length new_heads ≡ length heads
      as_many = length-set heads vertex (length cells + 1)

      at_vertex : (k : ℕ) → k < width → count_of (rows_in width new_heads new_cells) vertex k ≡ max
          (cond (place == k) count 0) (count_of (rows_in width heads cells) vertex k)
      at_vertex k inside = grind (
        arith,
        count_at width new_heads new_cells vertex k (omega (arith, below, as_many)) inside,
        get_or-set_same heads vertex (length cells + 1) 0 below,
        add-one (length cells),
        from_new cells
            headed.chained.falls cell k (headed.first vertex),
        count_at width heads cells vertex k below inside,
      )

-- ## An empty list of cells

pub none_headed : (width count : ℕ) → AreHeaded width (replicate count 0) []
none_headed width count = search (rules, zeros_at)

pub none_zero : (width count : ℕ) → AreZero (rows_in width (replicate count 0) []) count width
none_zero width count = record {
  shape = search (rules, rows_each, length-replicate, width_at);
  none = search (rules, cases_lt, count_past, count_behind, count_at, zeros_at, from_none);
}

-- ## A row of zeros, raised by a whole chain

pub row_done : (width : ℕ) (heads : List ℕ) (cells : List CountCell) (v head : ℕ) (zeros row : List ℕ) →
    v < length heads → head ≡ slice_index heads v → zeros ≡ replicate width 0 → length row ≡ length zeros →
    ((k : ℕ) → k < length zeros → slice_index row k ≡ max (slice_index zeros k) (count_from cells head head k)) →
    slice_get (rows_in width heads cells) v ≡ Some row
row_done width heads cells v head zeros row below head_is zeros_are long raised = row_at width heads cells v below
    ∙ ap (λ h. Some (row_from width cells h)) (sym head_is)
    ∙ ap Some (sym (fill_by_all (count_from cells head head) row width 0 as_long each))
  where
    many : length zeros ≡ width
    many = ap (λ (list : List ℕ). length list) zeros_are ∙ length-replicate {A = ℕ} width 0

    as_long : length row ≡ width
    as_long = long ∙ many

    each : (k : ℕ) → k < width → get_or row k 0 ≡ count_from cells head head k
    each k within = grind (arith, many, zeros_at, zero-max)
