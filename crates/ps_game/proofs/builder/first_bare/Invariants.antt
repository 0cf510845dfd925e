use Rattle.std.proofs.Common.{ℕ, ◌<◌, length}
use Rattle.ps_game.specs.Games.{successors_of}
use Rattle.ps_game.proofs.builder.first_bare.Given as goal

-- each vertex that the program's loop has visited has a successor
abbrev pub invariant-loop-number : goal.invariant-loop-number
invariant-loop-number l = (u : ℕ) → u < l.number → 0 < length (successors_of l.vertices u)
