use Rattle.std.proofs.Common.{rules}
use Rattle.ps_measure.proofs.CountRows.CountCells.{rows_each, width_at}
use Rattle.ps_measure.proofs.table.CountTable.width.Goals as goal

pub returns : goal.returns
returns c = search (rules, rows_each, width_at)
