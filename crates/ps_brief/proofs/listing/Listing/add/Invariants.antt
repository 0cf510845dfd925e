use Rattle.std.proofs.Common.{◌≡◌, take}
use Rattle.ps_brief.specs.Inner.Visiting.{Adding}
use Rattle.ps_brief.specs.Targets.{target_keys}
use Rattle.ps_brief.proofs.listing.Listing.add.Given as goal

abbrev pub invariant-loop-place : goal.invariant-loop-place
invariant-loop-place l = record {
  entered : Adding l.fn.self.entered.keys (take l.place (target_keys l.targets.list.items)) l.self.entered.keys;
  targets : l.self.targets ≡ l.fn.self.targets;
}
