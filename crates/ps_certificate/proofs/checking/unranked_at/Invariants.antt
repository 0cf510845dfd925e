use Rattle.std.proofs.Common.{ℕ, ◌<◌, get_or}
use Rattle.ps_game.specs.Games.{successors_of}
use Rattle.ps_certificate.specs.Inner.Prefixes.{KeepsCounts}
use Rattle.ps_certificate.proofs.checking.unranked_at.Given as goal

-- the vertex's edges to the successors before the loop's index obey the certificate's rule of counts
abbrev pub invariant-loop-number : goal.invariant-loop-number
invariant-loop-number g l = (k : ℕ) → k < l.number → KeepsCounts
    (g.A.Arena.game l.arena) l.certificate l.vertex (get_or (successors_of (g.A.Arena.game l.arena) l.vertex) k 0)
