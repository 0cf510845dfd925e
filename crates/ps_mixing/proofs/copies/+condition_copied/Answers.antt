use Rattle.std.proofs.Common.{arith}
use Rattle.ps_hoa.proofs.Reading.CondRows.{condition_of-All, condition_of-Any}
use Rattle.ps_mixing.proofs.copies.+condition_copied.Goals as goal

pub condition_copied-returns-in_ok-each_copied-in-All : goal.condition_copied-returns-in_ok-each_copied-in-All
condition_copied-returns-in_ok-each_copied-in-All t c = grind (arith, condition_of-All)

pub condition_copied-returns-in_ok-each_copied-in-Any : goal.condition_copied-returns-in_ok-each_copied-in-Any
condition_copied-returns-in_ok-each_copied-in-Any t c = grind (arith, condition_of-Any)
