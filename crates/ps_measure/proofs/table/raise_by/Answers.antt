use Rattle.std.proofs.Common.{arith, rules}
use Rattle.std.proofs.lemmas.List.{length-set, get_or_read, get_or-set_same, get_or-set_other}
use Rattle.ps_measure.proofs.CountRows.CountCells.{from_none, next_below, place_below, row_step}
use Rattle.ps_measure.proofs.table.raise_by.Goals as goal

pub loop-next-smaller : goal.loop-next-smaller
loop-next-smaller c = grind (arith, next_below)

pub loop-next-preserved-then-index-cell : goal.loop-next-preserved-then-index-cell
loop-next-preserved-then-index-cell c =
    search (rules, next_below, place_below, get_or_read, length-set, row_step, get_or-set_same, get_or-set_other)

pub loop-next-preserved : goal.loop-next-preserved
loop-next-preserved c = grind (arith, next_below, place_below, get_or_read, row_step)

pub returns-clause-raised : goal.returns-clause-raised
returns-clause-raised c = λ k within. grind (arith, from_none c.args.cells.now 0 k)
