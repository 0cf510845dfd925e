use Rattle.ps_measure.proofs.CountRows.CountCells.{none_headed, none_zero}
use Rattle.ps_measure.proofs.table.CountTable.new.Goals as goal

pub invariant_of-result : goal.invariant_of-result
invariant_of-result c = rw (c.in_ok-zeros.ensures, c.new.ensures) (none_headed c.args.width c.args.count)

pub returns : goal.returns
returns c = rw (c.in_ok-zeros.ensures, c.new.ensures) (none_zero c.args.width c.args.count)
