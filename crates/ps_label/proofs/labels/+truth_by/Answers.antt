use Rattle.std.proofs.Common.{rules}
use Rattle.ps_label.proofs.OperandLists.{expression-Both, expression-Either}
use Rattle.ps_label.proofs.labels.+truth_by.Goals as goal

pub loop-operand-init : goal.loop-operand-init
loop-operand-init t c = search (rules, expression-Both)

pub loop-operand-2-init : goal.loop-operand-2-init
loop-operand-2-init t c = search (rules, expression-Either)
