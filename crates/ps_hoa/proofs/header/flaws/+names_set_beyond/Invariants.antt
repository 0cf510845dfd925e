use Rattle.std.proofs.Common.{◌↔◌, drop, map}
use Rattle.ps_hoa.specs.Grammar.Conditions.{operands_in}
use Rattle.ps_hoa.specs.Grammar.Header.{NamesSetBeyond, SomeNamesSetBeyond}
use Rattle.ps_hoa.specs.Values.{condition_of}
use Rattle.ps_hoa.proofs.header.flaws.+names_set_beyond.Given as goal

abbrev pub decreases-names_set_beyond : goal.decreases-names_set_beyond
decreases-names_set_beyond l = goal.size-names_set_beyond l

-- an acceptance condition names a set that does not exist exactly if one of the remaining operands names such a set
abbrev pub invariant-loop-operand : goal.invariant-loop-operand
invariant-loop-operand l =
    SomeNamesSetBeyond l.count (operands_in (map condition_of (drop l.operand-index l.operand-items))) ↔ NamesSetBeyond
    l.count (condition_of l.condition)
