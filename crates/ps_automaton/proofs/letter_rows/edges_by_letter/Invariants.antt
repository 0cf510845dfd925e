use Rattle.std.proofs.Common.{◌≡◌, ◌<◌, ◌^◌, length, All}
use Rattle.std.specs.Option.{IfSome}
use Rattle.ps_hoa.specs.Views.{row_data}
use Rattle.ps_automaton.specs.Inner.Drafts.{AreJoined}
use Rattle.ps_automaton.specs.Inner.LetterSets.{edge_at}
use Rattle.ps_automaton.proofs.letter_rows.edges_by_letter.Given as goal

abbrev pub invariant-loop-place : goal.invariant-loop-place
invariant-loop-place l = record {
  letters : length l.edges.items ≡ 2 ^ length l.file.names;
  firsts : All (λ edge. IfSome edge (λ first. first < length l.targets)) l.edges.items;
  joined : AreJoined l.file (row_data l.row) l.place l.targets (edge_at l.edges.items);
}
