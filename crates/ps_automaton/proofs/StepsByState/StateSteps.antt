-- The steps of a state are computed from the state's row in the file, which has the edges of the state.
use Rattle.std.proofs.Common.{arith, ◌≡◌, ℕ, Some, sym, ◌∙◌}
use Rattle.ps_text.proofs.Combinators.Simple.{same_some}
use Rattle.ps_hoa.specs.Edges.{row_of}
use Rattle.ps_hoa.specs.Files.{RowData, FileData}
use Rattle.ps_automaton.specs.Answers.{AreClashing, Clash}
use Rattle.ps_automaton.specs.Inner.Drafts.{IsRowFault, IsStateFault}
use Rattle.ps_automaton.specs.declared.fault.AutomatonFault.{AutomatonFault}
use Rattle.ps_automaton.specs.declared.fault.AutomatonFault.TheVariants.{ComplementedSet, NonParity, Nondeterministic}
use Rattle.ps_automaton.specs.declared.fault.AutomatonFault.TheVariants.{OutOfMemory}

pub clash_in_row : {file : FileData} {q : ℕ} {row : RowData} → row_of file q ≡ Some row → {a b : ℕ} → Clash file q a b →
    AreClashing file row a b
clash_in_row {file} {row} of_state {a} {b} k = rw (same_some k.row row (sym k.of_state ∙ of_state)) at k.clashing

pub fault_of_state : (file : FileData) {q : ℕ} {row : RowData} → row_of file q ≡ Some row → row.state ≡ q →
    (f : AutomatonFault) → IsRowFault file row f → IsStateFault file q f
fault_of_state file of_state state ComplementedSet h = h
fault_of_state file of_state state NonParity h = h
fault_of_state file {q} {row} of_state state (Nondeterministic p first second) h = (
  h.0 ∙ state,
  grind arith,
  (λ a b k. h.1.least_second a b (clash_in_row of_state k)),
  (λ a k. h.1.least_first a (clash_in_row of_state k)),
)
fault_of_state file of_state state OutOfMemory h = tt
