use Rattle.std.proofs.Common.{drop}
use Rattle.ps_tableau.specs.Boards.{Grows, MakesEdges, covers_of}
use Rattle.ps_tableau.specs.Operators.{ArePruned}
use Rattle.ps_tableau.proofs.pruning.united_all.Given as goal

abbrev pub invariant-loop-place : goal.invariant-loop-place
invariant-loop-place l = record {
  grows : Grows l.fn.board l.board;
  united : MakesEdges l.board (ArePruned (covers_of l.fn.board (drop l.place l.edges))) l.united.items;
}
