-- The command `verify`. The answer of `verify` states whether an automaton accepts each lasso trace of a controller, or
-- no lasso trace of an environment.
use Rattle.std.specs.Prelude.{◌≡◌, ◌⊎◌, ℕ, Bool, List, [], ◌++◌, flat_map, codes, Result, Ok, Err}
use Rattle.ps_circuit.specs.Circuits.{CircuitData, IsCircuit}
use Rattle.ps_hoa.specs.Files.{FileData}
use Rattle.ps_machine.specs.declared.key.Order.{Order}
use Rattle.ps_product.specs.ProductFaultNames.{fault_number, fault_name}
use Rattle.ps_product.specs.ProductFaults.{IsTooEarly}
use Rattle.ps_product.specs.declared.fault.ProductFault.{ProductFault}
use Rattle.ps_product.specs.declared.fault.ProductFault.TheVariants.{Symbols, Timing}
use Rattle.ps_simulate.specs.Stimuli.{StimulusData}
use Rattle.ps_simulate.specs.StimulusTexts.{digits_of}
use Rattle.ps_simulate.specs.Symbols.{HasSymbols}
use Rattle.ps_simulate.specs.declared.role.Role.{Role}
use Rattle.ps_verify.specs.Judgements.{IsLosing, IsWinning}
use Rattle.ps_program.specs.Automata.{ReadsAutomaton}
use Rattle.ps_program.specs.Faults.{line_text}
use Rattle.ps_program.specs.Outcomes.{Then}
use Rattle.ps_program.specs.Replies.{Reply, line_reply, text_reply}
use Rattle.ps_program.specs.Texts.{CutsInTwo, ReadsCircuitText}

-- the text of a list of letters: one line of bits for each letter
abbrev pub letter_lines : List (List Bool) → List ℕ
letter_lines letters = flat_map (λ letter. digits_of letter ++ codes "\n") letters

-- the text of a stimulus, in the form that `lasso` reads: a line `-` divides the stem from the lap
abbrev pub stimulus_text : StimulusData → List ℕ
stimulus_text s = letter_lines s.stem ++ codes "-\n" ++ letter_lines s.lap

-- the word `loses`, and the stimulus on which the circuit loses
abbrev pub losing_text : StimulusData → List ℕ
losing_text s = codes "loses\n" ++ stimulus_text s

abbrev pub wins_reply : Reply
wins_reply = line_reply (codes "wins")

abbrev pub loses_reply : StimulusData → Reply
loses_reply s = text_reply (losing_text s)

-- the line that reports that a circuit has wrong symbols, or that its player moves first in each step, but its outputs
-- depend on the inputs of the same step
abbrev pub product_line : ProductFault → List ℕ
product_line fault = line_text (fault_number fault) (fault_name fault) []

-- the line for a circuit that can't be judged: its symbols are not those of its role, which are names of propositions;
-- or else it moves first, but in a step of some trace its outputs depend on the inputs of that step
abbrev pub IsUnjudgedLine :
    Order → Role → (names : List (List ℕ)) → (controllable : List ℕ) → CircuitData → List ℕ → Type 0
IsUnjudgedLine order role names controllable c line =
    (¬ HasSymbols role names controllable c × (line ≡ product_line Symbols))
    ⊎ (HasSymbols role names controllable c × IsTooEarly order role c × (line ≡ product_line Timing))

abbrev pub IsProductLine : Order → Role → FileData → CircuitData → List ℕ → Type 0
IsProductLine order role file c line = IsUnjudgedLine order role file.names file.controllable c line

-- the reply states that the circuit wins, or has a stimulus on which it loses
abbrev pub IsToldOf : (Wins : Type 0) → (Loses : StimulusData → Type 0) → Reply → Type 0
IsToldOf Wins Loses reply =
    (Wins × (reply ≡ wins_reply)) ⊎ ((s : StimulusData) × Loses s × (reply ≡ loses_reply s))

-- what is printed for a circuit: that it wins; or a stimulus on which it loses; or the line that reports why it can't
-- be judged
abbrev pub TellsJudgement : Order → Role → FileData → CircuitData → Result Reply (List ℕ) → Type 0
TellsJudgement order role file c (Ok reply) =
    IsCircuit c × IsToldOf (IsWinning order role file c) (IsLosing order role file c) reply
TellsJudgement order role file c (Err line) = IsProductLine order role file c line

-- parses a text as a circuit, and judges the circuit
abbrev pub VerifiesText : Order → Role → FileData → List ℕ → Result Reply (List ℕ) → Type 0
VerifiesText order role file text = Then (ReadsCircuitText text) (TellsJudgement order role file)

-- what the program answers to `verify`, given the texts of an automaton and of a circuit (a controller or an
-- environment)
abbrev pub AnswersVerify : Order → Role → List ℕ → Result Reply (List ℕ) → Type 0
AnswersVerify order role texts =
    Then (CutsInTwo texts) (λ parts. Then (ReadsAutomaton parts.0) (λ file. VerifiesText order role file parts.1))

-- the file and the circuit that the two texts of the input contain
abbrev pub ReadsVerified : List ℕ → FileData → CircuitData → Type 0
ReadsVerified texts file c = (parts : List ℕ × List ℕ) × CutsInTwo texts (Ok parts) × ReadsAutomaton parts.0 (Ok file)
    × ReadsCircuitText parts.1 (Ok c)
