use Rattle.std.proofs.Common.{◌≡◌}
use Rattle.std.specs.List.{All}
use Rattle.ps_brief.specs.Inner.Reaching.{GrowsTo, IsFound}
use Rattle.ps_brief.proofs.DrawnMachines.EnteredPlaces.{EntersFirst}
use Rattle.ps_brief.proofs.reach.Reached.enter.Given as goal

abbrev pub invariant-loop-leaf : goal.invariant-loop-leaf
invariant-loop-leaf l = record {
  drafts : l.self.drafts ≡ l.fn.self.drafts;
  grows : GrowsTo l.fn.self.places.keys l.self.places.keys;
  each : All (IsFound l.plan) l.fn.self.places.keys → All (IsFound l.plan) l.self.places.keys;
  entered : EntersFirst l.plan l.leaf-items l.leaf-index l.self.places.keys;
}
