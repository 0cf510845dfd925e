use Rattle.std.proofs.Common.{take}
use Rattle.ps_tableau.specs.Boards.{Grows, MakesEdges, covers_of}
use Rattle.ps_tableau.specs.Operators.{ArePruned}
use Rattle.ps_tableau.proofs.pruning.lessened_all.Given as goal

abbrev pub invariant-loop-edge : goal.invariant-loop-edge
invariant-loop-edge l = record {
  grows : Grows l.fn.board l.board;
  pruned : MakesEdges l.board (ArePruned (covers_of l.fn.board (take l.edge-index l.edges))) l.kept.items;
}
