use Rattle.std.proofs.Common.{◌≡◌}
use Rattle.ps_zielonka.specs.Inner.Levels.{code_of}
use Rattle.ps_zielonka.specs.Inner.Nests.{StandsBefore, IsReopened}
use Rattle.ps_zielonka.proofs.board.Board.reopen.Given as goal

abbrev pub invariant-loop-place : goal.invariant-loop-place
invariant-loop-place g l = record {
  spare : l.self.spare ≡ l.initial.self.spare;
  winner : l.self.winner.items ≡ l.initial.self.winner.items;
  reopened : IsReopened l.initial.self.winner.items l.frame.player (code_of l.placed.level) l.frame.turn
      (StandsBefore l.initial.self.spare l.place) l.initial.self.tables l.self.tables;
}
