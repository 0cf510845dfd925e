use Rattle.std.proofs.Common.{◌≡◌, ◌<◌, ℕ, false, slice_index}
use Rattle.ps_game.specs.Games.{successors_of}
use Rattle.ps_game.specs.Regions.{has}
use Rattle.ps_game.proofs.subgame.goes_on.Given as goal

abbrev pub invariant-loop-number : goal.invariant-loop-number
invariant-loop-number g l =
    (k : ℕ) → k < l.number → has l.region (slice_index (successors_of (g.A.Arena.game l.arena) l.vertex) k) ≡ false
