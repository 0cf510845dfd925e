use Rattle.std.proofs.Common.{◌≡◌, take}
use Rattle.ps_label.specs.Expression.{literal_expressions}
use Rattle.ps_label.specs.Truth.{expressions}
use Rattle.ps_hoa.proofs.label.operands.labels_of.Given as goal

abbrev pub invariant-loop-literal : goal.invariant-loop-literal
invariant-loop-literal l = expressions l.labels.items ≡ literal_expressions (take l.literal-index l.literals)
