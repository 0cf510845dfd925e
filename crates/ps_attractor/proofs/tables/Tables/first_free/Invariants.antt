use Rattle.std.proofs.Common.{◌≢◌, ◌<◌, ◌≤◌, ℕ, slice_index}
use Rattle.ps_game.specs.Games.{successors_of}
use Rattle.ps_attractor.specs.Tables.{level_of}
use Rattle.ps_attractor.proofs.tables.Tables.first_free.Given as goal

abbrev pub invariant-loop-number : goal.invariant-loop-number
invariant-loop-number g l = (k : ℕ) → l.from ≤ k → k < l.number →
    level_of l.self (slice_index (successors_of (g.A.Arena.game l.edges.arena.now) l.vertex) k) ≢ l.free
