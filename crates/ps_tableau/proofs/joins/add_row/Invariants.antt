use Rattle.std.proofs.Common.{take}
use Rattle.ps_tableau.specs.Boards.{Grows}
use Rattle.ps_tableau.specs.Inner.Joins.{AddsRow}
use Rattle.ps_tableau.proofs.joins.add_row.Given as goal

abbrev pub invariant-loop-other : goal.invariant-loop-other
invariant-loop-other l = record {
  grows : Grows l.fn.board l.board;
  row : AddsRow l.fn.board l.board l.edge (take l.other-index l.others) l.initial.joins.items l.joins.items;
}
