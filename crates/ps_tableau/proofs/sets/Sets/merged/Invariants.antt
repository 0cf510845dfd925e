use Rattle.std.proofs.Common.{◌+◌, ◌⊎◌, ◌↔◌, ℕ}
use Rattle.std.specs.List.{Contains}
use Rattle.ps_tableau.specs.Sets.{IsSet, indices_in}
use Rattle.ps_tableau.proofs.sets.Sets.merged.Given as goal

abbrev pub invariant-loop-greatest : goal.invariant-loop-greatest
invariant-loop-greatest l = record {
  first : IsSet l.self l.first;
  second : IsSet l.self l.second;
  each : (k : ℕ) → (Contains (indices_in l.self l.fn.a) k ⊎ Contains (indices_in l.self l.fn.b) k)
      ↔ (Contains l.taken.items k ⊎ (Contains (indices_in l.self l.first) k ⊎ Contains (indices_in l.self l.second) k));
}

abbrev pub decreases-loop-greatest : goal.decreases-loop-greatest
decreases-loop-greatest l = l.first + l.second
