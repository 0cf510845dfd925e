use Rattle.std.proofs.Common.{ℕ, ◌-◌}
use Rattle.ps_zielonka.specs.Inner.Levels.{code_of}
use Rattle.ps_zielonka.specs.Inner.Nests.{StandsBetween, IsKeptAt}
use Rattle.ps_zielonka.specs.Inner.Boards.{OnlyMoves}
use Rattle.ps_zielonka.proofs.board.Board.is_kept.Given as goal

abbrev pub invariant-loop-place : goal.invariant-loop-place
invariant-loop-place g l = record {
  moves : OnlyMoves (g.A.Arena.game l.edges.arena.now) l.initial.self l.self
      (StandsBetween l.initial.self.tables l.frame.turn l.frame.top);
  kept : (v : ℕ) → StandsBetween l.initial.self.tables l.frame.turn l.place v
      → IsKeptAt (g.A.Arena.game l.edges.arena.now) l.self.tables l.initial.self.winner.items (code_of l.placed.level)
      l.frame.player
      (1 - l.frame.player) v;
}
