use Rattle.std.proofs.Common.{◌≡◌, ◌++◌, map, drop, false}
use Rattle.ps_tlsf.specs.Wholes.{conjunction}
use Rattle.ps_tlsf.specs.Inner.StateViews.{written_data}
use Rattle.ps_tlsf.proofs.whole.conjoin.Given as goal

abbrev pub invariant-loop-formula : goal.invariant-loop-formula
invariant-loop-formula l =
    l.out.items ++ conjunction l.section l.any (map written_data (drop l.formula-index l.formulas))
    ≡ l.fn.out.items ++ conjunction l.section false (map written_data l.formulas)
