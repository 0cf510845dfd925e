use Rattle.std.proofs.Common.{◌≡◌, Bool, List, drop}
use Rattle.ps_label.specs.Expression.{literal_expressions, operands_in}
use Rattle.ps_label.specs.Truth.{all_true}
use Rattle.ps_label.proofs.labels.are_true.Given as goal

-- all literals are true exactly if the remaining literals are true
abbrev pub invariant-loop-literal : goal.invariant-loop-literal
invariant-loop-literal l = (known : List Bool) → all_true known l.letter (operands_in (literal_expressions
    (drop l.literal-index l.literals))) ≡ all_true known l.letter (operands_in (literal_expressions l.literals))
