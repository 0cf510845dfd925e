use Rattle.std.proofs.Common.{◌↔◌, drop}
use Rattle.ps_label.specs.Expression.{expression, operands_in}
use Rattle.ps_label.specs.Truth.{expressions}
use Rattle.ps_hoa.specs.Grammar.Header.{SpeaksBeyond, SomeSpeaksBeyond}
use Rattle.ps_hoa.proofs.header.flaws.+speaks_beyond.Given as goal

abbrev pub decreases-speaks_beyond : goal.decreases-speaks_beyond
decreases-speaks_beyond l = goal.size-speaks_beyond l

-- the condition contains a set that does not exist exactly if one of the remaining operands contains such a set
abbrev pub invariant-loop-operand : goal.invariant-loop-operand
invariant-loop-operand l =
    SomeSpeaksBeyond l.count (operands_in (expressions (drop l.operand-index l.operand-items))) ↔ SpeaksBeyond l.count
    (expression l.label)
