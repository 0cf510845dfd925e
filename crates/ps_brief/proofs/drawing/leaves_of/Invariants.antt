use Rattle.std.proofs.Common.{◌≡◌, length}
use Rattle.ps_diagram.specs.Table.{Table}
use Rattle.ps_brief.specs.Listings.{IsListing, listed_keys}
use Rattle.ps_brief.specs.Inner.Parts.{AreNotedUpTo}
use Rattle.ps_brief.specs.declared.setting.Setting.{Setting}
use Rattle.ps_brief.proofs.drawing.leaves_of.Given as goal

abbrev pub invariant-loop-place : goal.invariant-loop-place
invariant-loop-place l = record {
  many : length l.leaves.items ≡ length (listed_keys l.listing);
  noted : (setting : Setting) (t : Table) → IsListing setting t l.listing →
      AreNotedUpTo setting (listed_keys l.listing) l.leaves.items l.place;
}
