use Rattle.std.proofs.Common.{◌≡◌, length}
use Rattle.ps_zielonka.specs.Answers.{IsWonRegionTo}
use Rattle.ps_zielonka.proofs.answer.region_of.Given as goal

abbrev pub invariant-loop-vertex : goal.invariant-loop-vertex
invariant-loop-vertex l =
    record { places : length l.region ≡ length l.winner; won : IsWonRegionTo l.winner l.vertex l.region }
