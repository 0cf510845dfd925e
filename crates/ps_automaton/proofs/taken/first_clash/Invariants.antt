use Rattle.std.proofs.Common.{ℕ, ◌<◌}
use Rattle.ps_diagram.specs.Table.{Keeps}
use Rattle.ps_hoa.specs.Views.{row_data}
use Rattle.ps_automaton.specs.Answers.{AreClashing}
use Rattle.ps_automaton.proofs.taken.first_clash.Given as goal

-- none of the edges before the index `first` clashes with the edge at the index `second`
abbrev pub invariant-loop-first : goal.invariant-loop-first
invariant-loop-first l = record {
  keeps : Keeps l.initial.store l.store;
  none : (a : ℕ) → a < l.first → AreClashing l.guards.file.now (row_data l.guards.row.now) a l.second → ⊥;
}
