use Rattle.std.proofs.Common.{◌≡◌, length, drop}
use Rattle.ps_label.specs.Expression.{expression, operands_in, AreOver}
use Rattle.ps_label.specs.Truth.{expressions, truth, all_true, any_true}
use Rattle.ps_label.proofs.labels.+truth_by.Given as goal

abbrev pub decreases-truth_by : goal.decreases-truth_by
decreases-truth_by l = goal.size-truth_by l

-- the truth of the label is the conjunction (in the second loop, the disjunction) of the remaining operands' truths
abbrev pub invariant-loop-operand : goal.invariant-loop-operand
invariant-loop-operand l = record {
  decides : all_true l.known l.letter (operands_in (expressions (drop l.operand-index l.operand-items))) ≡ truth l.known
      l.letter (expression l.label);
  within : AreOver (length l.known) 64 (operands_in (expressions (drop l.operand-index l.operand-items)));
}

abbrev pub invariant-loop-operand-2 : goal.invariant-loop-operand-2
invariant-loop-operand-2 l = record {
  decides : any_true l.known l.letter (operands_in (expressions (drop l.operand-index l.operand-items))) ≡ truth l.known
      l.letter (expression l.label);
  within : AreOver (length l.known) 64 (operands_in (expressions (drop l.operand-index l.operand-items)));
}
