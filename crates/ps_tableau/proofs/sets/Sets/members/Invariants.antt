use Rattle.std.proofs.Common.{◌≡◌, ◌++◌}
use Rattle.ps_tableau.specs.Sets.{IsSet, indices_in}
use Rattle.ps_tableau.proofs.sets.Sets.members.Given as goal

abbrev pub invariant-loop-parts : goal.invariant-loop-parts
invariant-loop-parts l = record {
  held : IsSet l.self l.rest;
  split : l.members.items ++ indices_in l.self l.rest ≡ indices_in l.self l.fn.set;
}

abbrev pub decreases-loop-parts : goal.decreases-loop-parts
decreases-loop-parts l = l.rest
