use Rattle.std.proofs.Common.{◌≡◌, length}
use Rattle.ps_hoa.specs.Views.{row_data}
use Rattle.ps_automaton.proofs.EdgesAtLetters.LetterRows.{HaveTargets}
use Rattle.ps_automaton.proofs.draft.targets_of.Given as goal

-- the list has the targets of the edges that were visited so far
abbrev pub invariant-loop-edge : goal.invariant-loop-edge
invariant-loop-edge l = record {
  so_far : length l.targets.items ≡ l.edge-index;
  each : HaveTargets (row_data l.row) l.edge-index l.targets.items;
}
