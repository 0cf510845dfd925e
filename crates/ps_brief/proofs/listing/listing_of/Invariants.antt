use Rattle.std.proofs.Common.{◌-◌}
use Rattle.ps_diagram.specs.Table.{Keeps}
use Rattle.ps_brief.specs.Inner.Visiting.{IsVisiting}
use Rattle.ps_brief.proofs.listing.listing_of.Given as goal

-- the keys before `place` were visited
abbrev pub invariant-loop-state : goal.invariant-loop-state
invariant-loop-state l = record {
  keeps : Keeps l.fn.store l.store;
  visiting : IsVisiting l.setting l.store l.listing l.place;
}

-- the place grows, and is always less than 2^64, so the loop ends
abbrev pub decreases-loop-state : goal.decreases-loop-state
decreases-loop-state l = 18446744073709551616 - l.place
