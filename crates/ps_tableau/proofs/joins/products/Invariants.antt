use Rattle.std.proofs.Common.{take}
use Rattle.ps_tableau.specs.Boards.{Grows, MakesEdges, covers_of}
use Rattle.ps_tableau.specs.Operators.{AreProducts}
use Rattle.ps_tableau.proofs.joins.products.Given as goal

abbrev pub invariant-loop-edge : goal.invariant-loop-edge
invariant-loop-edge l = record {
  grows : Grows l.fn.board l.board;
  products : MakesEdges l.board
      (AreProducts (covers_of l.fn.board (take l.edge-index l.first)) (covers_of l.fn.board l.second)) l.joins.items;
}
