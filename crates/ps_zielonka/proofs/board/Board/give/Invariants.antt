use Rattle.std.proofs.Common.{◌≡◌, ℕ, ◌<◌, ◌≤◌, ◌⊎◌, length}
use Rattle.std.specs.Prelude.{slice_index}
use Rattle.ps_zielonka.specs.Inner.Nests.{StandsBetween}
use Rattle.ps_zielonka.proofs.board.Board.give.Given as goal

abbrev pub invariant-loop-place : goal.invariant-loop-place
invariant-loop-place g l = record {
  tables : l.self.tables ≡ l.initial.self.tables;
  winners : length l.self.winner.items ≡ length l.initial.self.winner.items;
  given : (j : ℕ) → l.begin ≤ j → j < l.place → slice_index l.self.winner.items (slice_index l.self.tables.trail j) ≡
      l.player;
  kept : (v : ℕ) → (slice_index l.self.winner.items v ≡ slice_index l.initial.self.winner.items v) ⊎ StandsBetween
      l.self.tables l.begin l.place v;
}
