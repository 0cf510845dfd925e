use Rattle.std.proofs.Common.{◌++◌, ◌∷◌, []}
use Rattle.ps_tableau.specs.Boards.{Grows, IsEdgeOf, cover_of, covers_of}
use Rattle.ps_tableau.specs.Operators.{ArePruned}
use Rattle.ps_tableau.proofs.pruning.left_beside.Given as goal

abbrev pub invariant-loop-place : goal.invariant-loop-place
invariant-loop-place l = record {
  grows : Grows l.fn.board l.board;
  left : IsEdgeOf l.board l.left;
  pruned : ArePruned (covers_of l.fn.board l.others ++ cover_of l.fn.board l.fn.edge ∷ [])
      (covers_of l.fn.board l.others ++ cover_of l.board l.left ∷ []);
}
