use Rattle.std.proofs.Common.{◌≡◌, length}
use Rattle.ps_tableau.specs.Boards.{Grows, HaveWays}
use Rattle.ps_tableau.proofs.operators.all_ways.Given as goal

abbrev pub invariant-loop-index : goal.invariant-loop-index
invariant-loop-index l = record {
  grows : Grows l.fn.board l.board;
  ways : HaveWays l.board l.ways.items;
  count : length l.ways.items ≡ l.index;
}
