-- The command that runs a circuit.
use Rattle.std.specs.Prelude.{◌≡◌, ℕ, Bool, List, ◌++◌, map, flat_map, codes, Result, Ok}
use Rattle.ps_circuit.specs.Circuits.{CircuitData, IsCircuit}
use Rattle.ps_simulate.specs.StimulusTexts.{digits_of}
use Rattle.ps_circuit.specs.Values.{Moment, Steps, IsTrace, GoesOn, resets}
use Rattle.ps_simulate.specs.Simulations.{Simulation}
use Rattle.ps_program.specs.Outcomes.{Then}
use Rattle.ps_program.specs.Replies.{Reply, text_reply}
use Rattle.ps_program.specs.Texts.{ReadsSimulated}

-- one step of a circuit as a line: the bits of the latches before the step, of the inputs and of the outputs
abbrev pub moment_line : Moment → List ℕ
moment_line m = digits_of m.latches ++ codes "|" ++ digits_of m.inputs ++ codes "|" ++ digits_of m.outputs ++ codes "\n"

-- the circuit's trace for the given letters, one line for each letter
pub record PrintsTrace (c : CircuitData) (letters : List (List Bool)) (text : List ℕ) : Type 0 where
  pub moments : List Moment
  pub is_trace : IsTrace c moments
  pub inputs_are : map (λ m. m.inputs) moments ≡ letters
  pub text_is : text ≡ flat_map moment_line moments

-- what the program answers to the command `sim`: the trace of a circuit
abbrev pub AnswersSim : List ℕ → Result Reply (List ℕ) → Type 0
AnswersSim texts = Then (ReadsSimulated texts) (λ both outcome. IsCircuit both.0
    × ((text : List ℕ) × PrintsTrace both.0 both.1.stem text × (outcome ≡ Ok (text_reply text))))

-- ---- the text while a circuit is simulated

-- the text has the lines of the letters read so far, and `latches` are the latches after those letters
pub record HasPrinted (c : CircuitData) (letters : List (List Bool)) (text : List ℕ) (latches : List Bool) : Type 0
  where
    pub moments : List Moment
    pub goes_on : GoesOn c (resets c) moments latches
    pub inputs_are : map (λ m. m.inputs) moments ≡ letters
    pub text_is : text ≡ flat_map moment_line moments

-- the circuit read one more letter, and the line of this step was appended to the text
pub record PrintsStep (before after : Simulation) (inputs : List Bool) (text_before text_after : List ℕ) : Type 0 where
  pub outputs : List Bool
  pub steps : Steps before.circuit before.latches inputs outputs after.latches
  pub text_is : text_after ≡ text_before ++ moment_line (record
      { latches = before.latches; inputs = inputs; outputs = outputs })
