use Rattle.std.proofs.Common.{rules}
use Rattle.ps_measure.proofs.CountRows.CountCells.{rows_each}
use Rattle.ps_measure.proofs.table.CountTable.len.Goals as goal

pub returns : goal.returns
returns c = search (rules, rows_each)
