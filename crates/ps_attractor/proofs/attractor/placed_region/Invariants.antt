use Rattle.std.proofs.Common.{◌≡◌, length}
use Rattle.ps_attractor.specs.Results.{IsRegionTo}
use Rattle.ps_attractor.proofs.attractor.placed_region.Given as goal

abbrev pub invariant-loop-vertex : goal.invariant-loop-vertex
invariant-loop-vertex g l =
    record { places : length l.region ≡ l.count; placed : IsRegionTo l.tables l.vertex l.region }
