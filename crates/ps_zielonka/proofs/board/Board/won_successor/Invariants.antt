use Rattle.std.proofs.Common.{◌≢◌, ℕ, ◌<◌}
use Rattle.std.specs.Prelude.{slice_index}
use Rattle.ps_game.specs.Games.{successors_of}
use Rattle.ps_attractor.specs.Tables.{level_of}
use Rattle.ps_zielonka.specs.Inner.Levels.{code_of}
use Rattle.ps_zielonka.proofs.board.Board.won_successor.Given as goal

abbrev pub invariant-loop-number : goal.invariant-loop-number
invariant-loop-number g l = (k : ℕ) → k < l.number
    → code_of l.placed.level < level_of l.self.tables
    (slice_index (successors_of (g.A.Arena.game l.edges.arena.now) l.vertex) k)
    → slice_index l.self.winner.items (slice_index (successors_of (g.A.Arena.game l.edges.arena.now) l.vertex) k) ≢
    l.player
