use Rattle.std.proofs.Common.{ℕ, ◌<◌}
use Rattle.std.specs.List.{All}
use Rattle.ps_game.specs.Games.{successors_of, vertex_count}
use Rattle.ps_game.proofs.builder.first_unknown.Given as goal

-- each successor of a vertex that the program's loop has visited is a vertex
abbrev pub invariant-loop-number : goal.invariant-loop-number
invariant-loop-number l = (u : ℕ) → u < l.number → All (λ x. x < vertex_count l.vertices) (successors_of l.vertices u)
