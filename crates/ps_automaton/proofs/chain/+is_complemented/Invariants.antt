use Rattle.std.proofs.Common.{◌≡◌, drop, map}
use Rattle.ps_hoa.specs.Grammar.Conditions.{operands_in}
use Rattle.ps_hoa.specs.Values.{condition_of}
use Rattle.ps_automaton.specs.Chains.{has_complement, some_has_complement}
use Rattle.ps_automaton.proofs.chain.+is_complemented.Given as goal

-- the condition contains a complemented set exactly if one of the remaining operands does
abbrev pub invariant-loop-operand : goal.invariant-loop-operand
invariant-loop-operand l =
    some_has_complement (operands_in (map condition_of (drop l.operand-index l.operand-items))) ≡ has_complement
    (condition_of l.condition)

abbrev pub invariant-loop-operand-2 : goal.invariant-loop-operand-2
invariant-loop-operand-2 l =
    some_has_complement (operands_in (map condition_of (drop l.operand-index l.operand-items))) ≡ has_complement
    (condition_of l.condition)
