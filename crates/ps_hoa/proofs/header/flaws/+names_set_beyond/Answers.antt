use Rattle.std.proofs.Common.{arith}
use Rattle.ps_hoa.proofs.Reading.CondRows.{condition_of-All, condition_of-Any}
use Rattle.ps_hoa.proofs.header.flaws.+names_set_beyond.Goals as goal

pub loop-operand-init : goal.loop-operand-init
loop-operand-init t c = grind (arith, condition_of-All, condition_of-Any)
