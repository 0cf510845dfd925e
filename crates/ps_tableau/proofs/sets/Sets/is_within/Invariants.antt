use Rattle.ps_tableau.specs.Inner.SetSteps.{IsWithin}
use Rattle.ps_tableau.specs.Sets.{IsSet}
use Rattle.ps_tableau.proofs.sets.Sets.is_within.Given as goal

abbrev pub invariant-loop-first : goal.invariant-loop-first
invariant-loop-first l = record {
  first : IsSet l.self l.first;
  second : IsSet l.self l.second;
  within : IsWithin l.self l.first l.second → IsWithin l.self l.fn.a l.fn.b;
}

abbrev pub decreases-loop-first : goal.decreases-loop-first
decreases-loop-first l = l.second
