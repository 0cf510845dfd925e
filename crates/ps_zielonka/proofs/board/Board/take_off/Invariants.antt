use Rattle.std.proofs.Common.{◌≡◌, ℕ, ◌+◌, ◌<◌, length}
use Rattle.std.specs.Prelude.{slice_index}
use Rattle.ps_zielonka.proofs.board.Board.take_off.Given as goal

abbrev pub invariant-loop-place : goal.invariant-loop-place
invariant-loop-place g l = record {
  all : length l.self.spare + l.turn ≡ l.place;
  same : (j : ℕ) → j < length l.self.spare → slice_index l.self.spare j ≡ slice_index l.self.tables.trail (l.turn + j);
  tables : l.self.tables ≡ l.initial.self.tables;
  winner : l.self.winner.items ≡ l.initial.self.winner.items;
}
