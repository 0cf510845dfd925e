use Rattle.std.proofs.Common.{◌≡◌, length}
use Rattle.ps_zielonka.specs.Answers.{AreWinningMovesTo}
use Rattle.ps_zielonka.proofs.answer.strategy_of.Given as goal

abbrev pub invariant-loop-vertex : goal.invariant-loop-vertex
invariant-loop-vertex g l = record {
  places : length l.strategy ≡ l.count;
  given : AreWinningMovesTo (g.A.Arena.game l.arena) l.tables.moves l.winner l.player l.vertex l.strategy;
}
