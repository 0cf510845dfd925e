use Rattle.std.proofs.Common.{arith, ◌≡◌, ◌<◌, ◌≤◌, ◌+◌, ◌++◌, ◌∷◌, [], List, ℕ, length, ap, Result, rules, OnOk, OnErr}
use Rattle.std.specs.Prelude.{slice_set, slice_index}
use Rattle.std.proofs.lemmas.List.{length_push}
use Rattle.ps_measure.specs.declared.table.CountCell.{CountCell}
use Rattle.ps_measure.specs.Ranks.{count_of, width_of}
use Rattle.ps_measure.specs.Tables.{AreHeaded, HasPut, rows_in}
use Rattle.ps_measure.proofs.CountRows.CountCells.{rows_each, width_at, put_headed, put_done, IsLastPlace, last_place}
use Rattle.ps_measure.proofs.table.CountTable.put.Goals as goal

pub at-next-requires : goal.at-next-requires
at-next-requires c = search (rules, rows_each)

pub set-requires : goal.set-requires
set-requires c = search (rules, rows_each)

-- the table of counts after the new cell is put at the front of the vertex's chain
module _ {width : ℕ} {heads : List ℕ} {cells : List CountCell} {rows : List (List ℕ)} {vertex place next number : ℕ}
    {new_cells : List CountCell} (count : ℕ) (view_is : rows_in width heads cells ≡ rows)
    (headed : AreHeaded width heads cells) (vertex_in : vertex < length rows)
    (place_in : place < width_of rows vertex) (next_is : next ≡ slice_index heads vertex)
    (cells_are : new_cells ≡ cells ++ record { place = place; count = count; next = next } ∷ [])
    (number_is : number ≡ length new_cells) (none : (k : ℕ) → place ≤ k → count_of rows vertex k ≡ 0)
    (some : 0 < count) where
  below : vertex < length heads
  below = omega (arith, vertex_in, rows_each width heads cells, ap (λ (list : List (List ℕ)). length list) view_is)

  within : place < width
  within = search (rules, width_at, below)

  last : IsLastPlace heads cells vertex place
  last = last_place width heads cells vertex place headed below (rw view_is none)

  long : length new_cells ≡ length cells + 1
  long = rw cells_are (length_push cells (record { place = place; count = count; next = next }))

  abbrev heads' : List ℕ
  heads' = slice_set heads vertex number

  still_headed : AreHeaded width heads' new_cells
  still_headed = rw (number_is, long, cells_are, next_is) (put_headed headed count below within last some)

  was_put : HasPut rows (rows_in width heads' new_cells) vertex place count
  was_put = rw (number_is, long, cells_are, next_is, ← view_is) (put_done headed count below within last some)

  pub kept_headed : {A E : Type 0} (r : Result A E) (now : List ℕ) → OnOk r (now ≡ heads') → OnErr r (now ≡ heads) →
      AreHeaded width now new_cells
  kept_headed r now h k = search (rules, still_headed, long)

  pub put_kept : {A E : Type 0} (r : Result A E) (now : List ℕ) → OnOk r (now ≡ heads') →
      OnOk r (HasPut rows (rows_in width now new_cells) vertex place count)
  put_kept r now h = search (rules, was_put)

pub invariant_of-self-2 : goal.invariant_of-self-2
invariant_of-self-2 c =
    kept_headed c.args.count c.self.view_is c.self.invariant c.requires.vertex c.requires.place c.at-next.ensures
    c.in_ok-push.ensures.ok c.len.ensures c.requires.later c.requires.some c.set.result c.set.new.self
    c.set.ensures.ok c.set.ensures.err

pub returns : goal.returns
returns c = grind (arith, put_kept)
