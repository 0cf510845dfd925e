use Rattle.std.proofs.Common.{◌≡◌, take}
use Rattle.ps_brief.specs.Listings.{keys_of}
use Rattle.ps_brief.proofs.listing.Listing.keys.Given as goal

abbrev pub invariant-loop-step : goal.invariant-loop-step
invariant-loop-step l = l.keys.items ≡ keys_of (take l.step-index l.step-items)
