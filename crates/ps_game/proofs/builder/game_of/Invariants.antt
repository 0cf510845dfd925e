use Rattle.std.proofs.Common.{◌≡◌, take}
use Rattle.ps_game.proofs.builder.game_of.Given as goal

abbrev pub invariant-loop-vertex : goal.invariant-loop-vertex
invariant-loop-vertex l = l.arrays ≡ take l.vertex-index l.vertices
