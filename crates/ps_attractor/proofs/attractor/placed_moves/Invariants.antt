use Rattle.std.proofs.Common.{◌≡◌, length}
use Rattle.ps_attractor.specs.Results.{AreMovesTo}
use Rattle.ps_attractor.proofs.attractor.placed_moves.Given as goal

abbrev pub invariant-loop-vertex : goal.invariant-loop-vertex
invariant-loop-vertex g l = record {
  places : length l.moves ≡ l.count;
  given : AreMovesTo (g.A.Arena.game l.arena) l.tables l.player l.target l.vertex l.moves;
}
