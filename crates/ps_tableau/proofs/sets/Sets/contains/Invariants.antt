use Rattle.std.proofs.Common.{◌↔◌}
use Rattle.std.specs.List.{Contains}
use Rattle.ps_tableau.specs.Sets.{IsSet, indices_in}
use Rattle.ps_tableau.proofs.sets.Sets.contains.Given as goal

abbrev pub invariant-loop-parts : goal.invariant-loop-parts
invariant-loop-parts l = record {
  held : IsSet l.self l.rest;
  each : (Contains (indices_in l.self l.fn.set) l.index) ↔ (Contains (indices_in l.self l.rest) l.index);
}

abbrev pub decreases-loop-parts : goal.decreases-loop-parts
decreases-loop-parts l = l.rest
