use Rattle.std.proofs.Common.{◌≢◌, ◌<◌, ℕ}
use Rattle.std.specs.List.{AllPairs}
use Rattle.ps_game.specs.Games.{successors_of}
use Rattle.ps_game.proofs.vertices.Vertices.are_distinct.Given as goal

abbrev pub invariant-loop-vertex : goal.invariant-loop-vertex
invariant-loop-vertex l = (v : ℕ) → v < l.vertex → AllPairs (λ x y. x ≢ y) (successors_of l.self v)
