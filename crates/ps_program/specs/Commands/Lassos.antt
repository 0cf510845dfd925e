-- The command that runs a circuit on a lasso (a stem, and a lap that repeats for ever), and states whether an automaton
-- accepts the resulting word.
use Rattle.std.specs.Prelude.{◌≡◌, ◌<◌, ◌⊎◌, ℕ, true, List, [], ◌++◌, length, codes, Result, Ok, Err, if◌then◌else◌}
use Rattle.ps_circuit.specs.Circuits.{CircuitData, IsCircuit}
use Rattle.ps_hoa.specs.Files.{FileData}
use Rattle.ps_simulate.specs.LassoFaultNames.{fault_number, fault_name}
use Rattle.ps_simulate.specs.Lassos.{IsVerdictOf}
use Rattle.ps_simulate.specs.Stimuli.{StimulusData}
use Rattle.ps_simulate.specs.Symbols.{HasSymbols}
use Rattle.ps_simulate.specs.declared.lassos.LassoFault.{LassoFault}
use Rattle.ps_simulate.specs.declared.lassos.LassoFault.TheVariants.{EmptyLap, Symbols}
use Rattle.ps_simulate.specs.declared.lassos.Verdict.{Verdict}
use Rattle.ps_simulate.specs.declared.role.Role.{Role}
use Rattle.ps_program.specs.Automata.{ReadsAutomaton}
use Rattle.ps_program.specs.Faults.{spaced, line_text}
use Rattle.ps_program.specs.Outcomes.{Then}
use Rattle.ps_program.specs.Replies.{Reply, line_reply}
use Rattle.ps_program.specs.Texts.{CutsInThree, ReadsCircuitText, ReadsStimulusText}

-- the text of a verdict: whether the automaton accepts the lasso, and the lengths of the lasso's stem and lap
abbrev pub verdict_text : Verdict → List ℕ
verdict_text v =
    (if v.accepted then codes "accepted" else codes "rejected") ++ codes " stem" ++ spaced v.stem ++
    codes " lap" ++ spaced v.lap

-- the line that reports that the lasso has an empty lap, or that the circuit's symbols are not those of its role
-- (controller or environment)
abbrev pub lasso_line : LassoFault → List ℕ
lasso_line fault = line_text (fault_number fault) (fault_name fault) []

-- The verdict on a lasso, or the line that reports a fault. It is a fault if the lap is empty, or if the circuit's
-- symbols are not those of its role (controller or environment). If both faults occur, only the empty lap is reported.
abbrev pub TellsVerdict : Role → FileData → CircuitData → StimulusData → Result Reply (List ℕ) → Type 0
TellsVerdict role file c s (Ok reply) =
    IsCircuit c × (0 < length s.lap) × HasSymbols role file.names file.controllable c
    × ((v : Verdict) × IsVerdictOf file c s.stem s.lap v × (reply ≡ line_reply (verdict_text v)))
TellsVerdict role file c s (Err line) = ((s.lap ≡ []) × (line ≡ lasso_line EmptyLap))
    ⊎ ((0 < length s.lap) × ¬ HasSymbols role file.names file.controllable c × (line ≡ lasso_line Symbols))

-- the text of a circuit and the text of a stimulus are parsed, and `Tells` gives the result for both; in the stimulus,
-- a line `-` divides the stem from the repeated lap
abbrev pub RunsOnLasso : (Tells : CircuitData → StimulusData → Result Reply (List ℕ) → Type 0) → List ℕ → List ℕ →
    Result Reply (List ℕ) → Type 0
RunsOnLasso Tells text letters =
    Then (ReadsCircuitText text) (λ c. Then (ReadsStimulusText (length c.inputs) true letters) (Tells c))

-- the verdict on a circuit and a stimulus, which are given as texts
abbrev pub RunsCircuit : Role → FileData → List ℕ → List ℕ → Result Reply (List ℕ) → Type 0
RunsCircuit role file text letters = RunsOnLasso (TellsVerdict role file) text letters

-- what the program answers to `lasso`, given the texts of an automaton, a circuit (a controller or an environment) and
-- a stimulus
abbrev pub AnswersLasso : Role → List ℕ → Result Reply (List ℕ) → Type 0
AnswersLasso role texts =
    Then (CutsInThree texts) (λ parts. Then (ReadsAutomaton parts.0) (λ file. RunsCircuit role file parts.1 parts.2))
