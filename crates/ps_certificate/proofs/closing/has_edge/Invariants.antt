use Rattle.std.proofs.Common.{◌≢◌, ℕ, ◌<◌, get_or}
use Rattle.ps_game.specs.Games.{successors_of}
use Rattle.ps_certificate.proofs.closing.has_edge.Given as goal

-- no successor before the loop's index is the vertex that is searched for
abbrev pub invariant-loop-place : goal.invariant-loop-place
invariant-loop-place g l =
    (k : ℕ) → k < l.place → get_or (successors_of (g.A.Arena.game l.arena) l.vertex) k 0 ≢ l.successor
