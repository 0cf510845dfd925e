use Rattle.std.proofs.Common.{arith}
use Rattle.ps_label.proofs.OperandLists.{expression-Both, expression-Either}
use Rattle.ps_hoa.proofs.label.operands.Operands.together.Goals as goal

pub returns-in_ok-into_labels-in-And-default : goal.returns-in_ok-into_labels-in-And-default
returns-in_ok-into_labels-in-And-default c = grind (arith, expression-Both)

pub returns-in_ok-into_labels-in-Or-default : goal.returns-in_ok-into_labels-in-Or-default
returns-in_ok-into_labels-in-Or-default c = grind (arith, expression-Either)
