use Rattle.std.proofs.Common.{arith, ◌≡◌, ◌<◌, ◌∙◌, List, ℕ, length, ap, sym, replicate, rules}
use Rattle.std.specs.Prelude.{slice_get}
use Rattle.std.proofs.lemmas.Grind.{common_steps}
use Rattle.ps_measure.proofs.CountRows.CountCells.{rows_each, row_done}
use Rattle.ps_measure.proofs.table.CountTable.row_into.Goals as goal

pub at-requires : goal.at-requires
at-requires c = search (rules, rows_each)

pub returns : goal.returns
returns c =
    let s = c.self.inside in
    let same = ap (λ (rows : List (List ℕ)). length rows) c.self.view_is in
    let below : c.args.vertex < length s.heads = omega (arith, rows_each s.width s.heads s.cells, same, c.requires) in
    let head_is = c.at.ensures in
    let zeros : c.resize.new.self.items ≡ replicate s.width 0 =
    grind (arith, common_steps, c.in_ok-resize.ensures.items, c.clear.ensures.len) in
    ap (λ (rows : List (List ℕ)). slice_get rows c.args.vertex) (sym c.self.view_is)
    ∙ row_done s.width s.heads s.cells c.args.vertex c.at.result c.resize.new.self.items c.raise_by.new.row.items below
    head_is zeros c.raise_by.ensures.long c.raise_by.ensures.raised
