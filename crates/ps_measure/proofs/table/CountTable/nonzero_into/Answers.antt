use Rattle.std.proofs.Common.{◌<◌, List, [], ℕ, length, ap, arith, rules}
use Rattle.std.proofs.lemmas.Grind.{common_steps}
use Rattle.std.proofs.lemmas.List.{reverse-append}
use Rattle.std.proofs.lemmas.Option.{get_or_from_slice_get}
use Rattle.ps_measure.specs.Tables.{rows_in}
use Rattle.ps_measure.proofs.CountRows.CountCells.{rows_each, row_at, next_below}
use Rattle.ps_measure.proofs.CountRows.NonzeroCells.{nonzero_step, nonzero_none}
use Rattle.ps_measure.proofs.table.CountTable.nonzero_into.Goals as goal

pub at-next-requires : goal.at-next-requires
at-next-requires c = search (rules, rows_each)

pub loop-next-smaller : goal.loop-next-smaller
loop-next-smaller c = grind (arith, next_below)

pub loop-next-preserved : goal.loop-next-preserved
loop-next-preserved c = grind (arith, common_steps, next_below, nonzero_step, reverse-append)

pub returns : goal.returns
returns c =
    let s = c.self.inside in
    let same = ap (λ (rows : List (List ℕ)). length rows) c.self.view_is in
    let below : c.args.vertex < length s.heads = omega (arith, rows_each s.width s.heads s.cells, same, c.requires) in
    grind (
      arith,
      nonzero_none c.self.invariant.chained,
      get_or_from_slice_get (rows_in s.width s.heads s.cells) c.args.vertex _ []
          (row_at s.width s.heads s.cells c.args.vertex below),
    )
