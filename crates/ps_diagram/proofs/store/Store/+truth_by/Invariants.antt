use Rattle.std.proofs.Common.{true, false, drop}
use Rattle.ps_label.specs.Expression.{expression}
use Rattle.ps_label.specs.Truth.{expressions}
use Rattle.ps_diagram.proofs.TreeOperations.Unions.{AreOperands}
use Rattle.ps_diagram.proofs.store.Store.+truth_by.Given as goal

abbrev pub decreases-truth_by : goal.decreases-truth_by
decreases-truth_by l = goal.size-truth_by l

abbrev pub invariant-loop-operand : goal.invariant-loop-operand
invariant-loop-operand l = AreOperands false l.fn.self l.self l.aliases l.nodes.items
    (expressions (drop l.operand-index l.operand-items)) (expression l.label)

abbrev pub invariant-loop-operand-2 : goal.invariant-loop-operand-2
invariant-loop-operand-2 l = AreOperands true l.fn.self l.self l.aliases l.nodes.items
    (expressions (drop l.operand-index l.operand-items)) (expression l.label)
