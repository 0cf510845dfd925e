use Rattle.std.proofs.Common.{◌≡◌, ℕ, ◌<◌, get_or}
use Rattle.ps_game.specs.Games.{successors_of}
use Rattle.ps_certificate.specs.Certificates.{winner_of}
use Rattle.ps_certificate.proofs.closing.first_escape.Given as goal

-- the winner of the vertex also wins each successor before the loop's index
abbrev pub invariant-loop-number : goal.invariant-loop-number
invariant-loop-number g l = (k : ℕ) →
    k < l.number → winner_of l.certificate (get_or (successors_of (g.A.Arena.game l.arena) l.vertex) k 0) ≡ l.winner
