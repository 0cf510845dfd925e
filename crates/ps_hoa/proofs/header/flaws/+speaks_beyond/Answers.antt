use Rattle.std.proofs.Common.{arith}
use Rattle.ps_label.proofs.OperandLists.{expression-Both, expression-Either}
use Rattle.ps_hoa.proofs.header.flaws.+speaks_beyond.Goals as goal

pub loop-operand-init : goal.loop-operand-init
loop-operand-init t c = grind (arith, expression-Both, expression-Either)
