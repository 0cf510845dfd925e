use Rattle.std.proofs.Common.{drop}
use Rattle.ps_tableau.specs.Boards.{AreKnown, Grows}
use Rattle.ps_tableau.specs.Inner.Joins.{IsPlaceOf}
use Rattle.ps_tableau.proofs.states.edges_from.Given as goal

abbrev pub invariant-loop-place : goal.invariant-loop-place
invariant-loop-place l = record {
  grows : Grows l.fn.board l.board;
  known : AreKnown l.board l.known;
  last : IsPlaceOf l.board l.known (drop l.place l.formulas.items) l.last;
}
