-- The command `lasso --tlsf`. It runs a circuit on a lasso (a stem, and a lap that repeats for ever), and states
-- whether the resulting word satisfies a specification.
use Rattle.std.specs.Prelude.{◌≡◌, ◌<◌, ◌⊎◌, ℕ, Bool, true, false, List, [], ◌++◌, length, codes, Result, Ok, Err}
use Rattle.std.specs.Prelude.{if◌then◌else◌}
use Rattle.ps_circuit.specs.Circuits.{CircuitData, IsCircuit}
use Rattle.ps_formula.specs.Formulas.{Formula}
use Rattle.ps_formula.specs.Satisfaction.{Satisfies}
use Rattle.ps_label.specs.Words.{lasso_word}
use Rattle.ps_simulate.specs.Lassos.{IsWordOf}
use Rattle.ps_simulate.specs.Stimuli.{StimulusData}
use Rattle.ps_simulate.specs.Symbols.{HasSymbols}
use Rattle.ps_simulate.specs.Words.{TraceWordData}
use Rattle.ps_simulate.specs.declared.lassos.LassoFault.TheVariants.{EmptyLap, Symbols}
use Rattle.ps_simulate.specs.declared.role.Role.{Role}
use Rattle.ps_tlsf.specs.Names.{names_in, outputs_in}
use Rattle.ps_tlsf.specs.Specifications.{Specification}
use Rattle.ps_program.specs.Faults.{spaced}
use Rattle.ps_program.specs.Commands.Lassos.{RunsOnLasso, lasso_line}
use Rattle.ps_program.specs.Outcomes.{Then}
use Rattle.ps_program.specs.Replies.{Reply, line_reply}
use Rattle.ps_program.specs.Texts.{CutsInThree, ReadsSpecificationText}

-- whether a word satisfies a specification, and the lengths of the word's stem and lap
abbrev pub satisfaction_of : (satisfied : Bool) → (stem lap : ℕ) → List ℕ
satisfaction_of satisfied stem lap =
    (if satisfied then codes "satisfied" else codes "violated") ++ codes " stem" ++ spaced stem ++ codes " lap" ++
    spaced lap

abbrev pub satisfaction_text : (satisfied : Bool) → TraceWordData → List ℕ
satisfaction_text satisfied word = satisfaction_of satisfied (length word.stem) (length word.lap)

-- the reply states whether the word satisfies the formula at its first index
abbrev pub IsToldBy : Formula → TraceWordData → Reply → Type 0
IsToldBy f word reply =
    (Satisfies f (lasso_word word.stem word.lap) 0 × (reply ≡ line_reply (satisfaction_text true word)))
    ⊎ (¬ Satisfies f (lasso_word word.stem word.lap) 0 × (reply ≡ line_reply (satisfaction_text false word)))

-- Whether the word of a circuit's run on a stimulus satisfies the specification, or the line that reports a fault. It
-- is a fault if the lap is empty, or if the circuit's symbols are not those of its role (controller or environment);
-- the controller sets the outputs of the specification. If both faults occur, only the empty lap is reported.
abbrev pub TellsSatisfaction : Role → Specification → CircuitData → StimulusData → Result Reply (List ℕ) → Type 0
TellsSatisfaction role spec c s (Ok reply) =
    IsCircuit c × (0 < length s.lap) × HasSymbols role (names_in spec.names) (outputs_in spec.names) c
    × ((word : TraceWordData) × IsWordOf (names_in spec.names) c s.stem s.lap word × IsToldBy spec.whole word reply)
TellsSatisfaction role spec c s (Err line) = ((s.lap ≡ []) × (line ≡ lasso_line EmptyLap))
    ⊎ ((0 < length s.lap) × ¬ HasSymbols role (names_in spec.names) (outputs_in spec.names) c
    × (line ≡ lasso_line Symbols))

-- whether a circuit's run on a stimulus satisfies the specification; the two are given as texts
abbrev pub RunsSpecified : Role → Specification → List ℕ → List ℕ → Result Reply (List ℕ) → Type 0
RunsSpecified role spec text letters = RunsOnLasso (TellsSatisfaction role spec) text letters

-- what the program answers to `lasso --tlsf`, given the texts of a specification, a circuit (a controller or an
-- environment) and a stimulus
abbrev pub AnswersLassoTlsf : Role → List ℕ → Result Reply (List ℕ) → Type 0
AnswersLassoTlsf role texts =
    Then (CutsInThree texts) (λ parts. Then (ReadsSpecificationText parts.0) (λ spec.
    RunsSpecified role spec parts.1 parts.2))
