use Rattle.ps_diagram.specs.Table.{Keeps}
use Rattle.ps_hoa.specs.Views.{row_data}
use Rattle.ps_automaton.specs.Inner.Drafts.{IsReady, IsUnion}
use Rattle.ps_automaton.proofs.union.add_all.Given as goal

abbrev pub invariant-loop-place : goal.invariant-loop-place
invariant-loop-place l = record {
  keeps : Keeps l.fn.store l.store;
  ready : IsReady l.store l.guards;
  union : IsUnion l.guards.file.now (row_data l.guards.row.now) l.place l.union.targets l.store l.union.node;
}
