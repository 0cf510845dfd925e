use Rattle.std.proofs.Common.{◌↔◌, ◌⊎◌, ℕ, drop}
use Rattle.std.specs.List.{Contains}
use Rattle.ps_tableau.specs.Sets.{AreSets, KeepsSets, IsSet, indices_in}
use Rattle.ps_tableau.proofs.sets.Sets.with_all.Given as goal

abbrev pub invariant-loop-place : goal.invariant-loop-place
invariant-loop-place l = record {
  extends : KeepsSets l.fn.self l.self;
  sets : AreSets l.self;
  held : IsSet l.self l.set;
  each : (k : ℕ) → (Contains (indices_in l.self l.set) k)
      ↔ (Contains (drop l.place l.more) k ⊎ Contains (indices_in l.fn.self l.fn.set) k);
}
