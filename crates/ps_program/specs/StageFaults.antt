-- The faults of synthesis, as the program reports them: by the number and the name of each fault.
-- - `automaton_line fault`: the line that reports why a file has no automaton. If memory ran out, there is no line
--   (None).
-- - `stage_line fault`: the line that reports why there is no certificate, no circuit or no report. If memory ran out,
--   there is no line (None).
use Rattle.std.specs.Prelude.{◌≡◌, ⊤, ℕ, List, [], Option, None, Some}
use Rattle.ps_automaton.specs.FaultNames as automaton_faults
use Rattle.ps_automaton.specs.declared.fault.AutomatonFault.{AutomatonFault}
use Rattle.ps_automaton.specs.declared.fault.AutomatonFault.TheVariants as automaton
use Rattle.ps_synthesis.specs.SynthFaultNames as synth_faults
use Rattle.ps_synthesis.specs.declared.fault.SynthFault.{SynthFault}
use Rattle.ps_synthesis.specs.declared.fault.SynthFault.TheVariants.{Text, Automaton, BadCycle, Certificate}
use Rattle.ps_synthesis.specs.declared.fault.SynthFault.TheVariants.{NotCertified, CircuitTooLarge, OutOfMemory}
use Rattle.ps_program.specs.declared.answer.Refusal.{Refusal}
use Rattle.ps_program.specs.declared.answer.Refusal.TheVariants as refusal
use Rattle.ps_program.specs.Faults.{byte_text, edges_text, fault_text, ids_text, line_text}

-- the place that is printed for a fault, or None for `OutOfMemory`, which no line reports
abbrev pub automaton_place : AutomatonFault → Option (List ℕ)
automaton_place automaton.ComplementedSet = Some []
automaton_place automaton.NonParity = Some []
automaton_place (automaton.Nondeterministic state first second) = Some (edges_text state first second)
automaton_place automaton.OutOfMemory = None

abbrev pub stage_place : SynthFault → Option (List ℕ)
stage_place (Text cause offset) = Some (byte_text offset)
stage_place (Automaton fault) = automaton_place fault
stage_place (BadCycle ids) = Some (ids_text ids.items)
stage_place (Certificate cause offset) = Some (byte_text offset)
stage_place NotCertified = Some []
stage_place CircuitTooLarge = Some []
stage_place OutOfMemory = None

abbrev pub line_at : ℕ → List ℕ → Option (List ℕ) → Option (List ℕ)
line_at number name None = None
line_at number name (Some place) = Some (line_text number name place)

abbrev pub automaton_line : AutomatonFault → Option (List ℕ)
automaton_line fault =
    line_at (automaton_faults.fault_number fault) (automaton_faults.fault_name fault) (automaton_place fault)

abbrev pub stage_line : SynthFault → Option (List ℕ)
stage_line fault = line_at (synth_faults.fault_number fault) (synth_faults.fault_name fault) (stage_place fault)

-- the fault comes from the solver
abbrev pub IsOfSolver : SynthFault → Type 0
IsOfSolver (BadCycle ids) = ⊤
IsOfSolver (Certificate cause offset) = ⊤
IsOfSolver NotCertified = ⊤
IsOfSolver fault = ⊥

-- a fault that has a line is reported by this line; a fault without a line is reported as `OutOfMemory`
abbrev pub IsToldAs : Option (List ℕ) → Refusal → Type 0
IsToldAs line (refusal.Fault told) = line ≡ Some (fault_text told)
IsToldAs line refusal.OutOfMemory = line ≡ None

abbrev pub IsAutomatonTold : AutomatonFault → Refusal → Type 0
IsAutomatonTold fault refused = IsToldAs (automaton_line fault) refused

abbrev pub IsTold : SynthFault → Refusal → Type 0
IsTold fault refused = IsToldAs (stage_line fault) refused
