use Rattle.std.proofs.Common.{◌≡◌, take}
use Rattle.ps_game.proofs.vertices.Vertices.listed.Given as goal

abbrev pub invariant-loop-vertex : goal.invariant-loop-vertex
invariant-loop-vertex l = l.vertices.items ≡ take l.vertex l.self
