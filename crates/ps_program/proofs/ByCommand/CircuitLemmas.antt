-- A fault in the text of a circuit or of a stimulus becomes the fault of the command that reads this text.
use Rattle.std.proofs.Common.{arith, ℕ, false, Bool, List, length, Ok, Err, refl, inl, inr}
use Rattle.ps_circuit.specs.Circuits.{CircuitData}
use Rattle.ps_simulate.specs.Stimuli.{StimulusData, stem_of}
use Rattle.ps_simulate.specs.StimulusTexts.{ReadsStimulus, IsLettersAnswer}
use Rattle.ps_simulate.specs.Faults.{StimulusFault, cause_number, cause_name}
use Rattle.ps_text.specs.declared.faults.Fault.TheVariants.{Text, OutOfMemory}
use Rattle.ps_program.specs.declared.answer.Refusal.{Refusal}
use Rattle.ps_program.specs.declared.answer.Refusal.TheVariants as refusal
use Rattle.ps_program.specs.Faults.{fault_text}
use Rattle.ps_program.specs.Outcomes.{Gives}
use Rattle.ps_program.specs.Refusals.{IsRefusalOf}
use Rattle.ps_program.specs.Texts.{CutsInTwo, ReadsCircuitText, ReadsStimulusText, ReadsSimulated}
use Rattle.ps_program.proofs.ByCommand.OutcomeLemmas.{gives_fault}

-- a circuit and a stimulus for it
abbrev pub Run : Type 0
Run = CircuitData × StimulusData

abbrev pub run_view : CircuitData × List (List Bool) → Run
run_view both = (both.0, stem_of both.1)

-- a fault in the circuit's text is also the fault that reading the circuit and the stimulus together reports
pub simulated_circuit_fault : (texts first second : List ℕ) (fault : Refusal) → CutsInTwo texts (Ok (first, second))
    → Gives {X = CircuitData} (λ given. given) (ReadsCircuitText first) (Err fault) →
    Gives run_view (ReadsSimulated texts) (Err fault)
simulated_circuit_fault texts first second (refusal.Fault fault) cuts h = inr ((first, second), cuts, grind arith)
simulated_circuit_fault texts first second refusal.OutOfMemory cuts h = tt

-- if the circuit's text is correct, a fault in the stimulus is the fault that reading both texts reports
pub simulated_stimulus_fault : (texts first second : List ℕ) (c : CircuitData) (fault : Refusal) →
    CutsInTwo texts (Ok (first, second)) → ReadsCircuitText first (Ok c)
    → Gives {X = List (List Bool)} stem_of (ReadsStimulusText (length c.inputs) false second) (Err fault) →
    Gives run_view (ReadsSimulated texts) (Err fault)
simulated_stimulus_fault texts first second c (refusal.Fault fault) cuts reads h =
    inr ((first, second), cuts, inr (c, reads, inl (fault_text fault, h, refl)))
simulated_stimulus_fault texts first second c refusal.OutOfMemory cuts reads h = tt

-- a text that is refused as a list of letters is refused as a stimulus
pub letters_fault : (text : List ℕ) (width : ℕ) (given : StimulusFault) (refused : Refusal) →
    IsLettersAnswer text width (Err given) → IsRefusalOf cause_number cause_name given refused →
    Gives {X = List (List Bool)} stem_of (ReadsStimulusText width false text) (Err refused)
letters_fault text width (Text cause offset) refused answer same =
    gives_fault cause_number cause_name (ReadsStimulus text width false) stem_of (Text cause offset) refused answer same
letters_fault text width OutOfMemory refused answer same = grind (arith, gives_fault)
