use Rattle.std.proofs.Common.{◌≡◌, length}
use Rattle.ps_hoa.specs.Views.{row_data}
use Rattle.ps_automaton.proofs.EdgesAtLetters.FirstCases.{HaveProducts}
use Rattle.ps_automaton.proofs.cases.products_of.Given as goal

-- the list has the products of the edges that were visited so far
abbrev pub invariant-loop-edge : goal.invariant-loop-edge
invariant-loop-edge l = record {
  so_far : length l.products.items ≡ l.edge-index;
  each : HaveProducts l.fn.file (row_data l.row) l.edge-index l.products.items;
}
