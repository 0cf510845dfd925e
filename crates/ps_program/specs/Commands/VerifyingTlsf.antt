-- The command `verify --tlsf`. The answer of `verify --tlsf` states whether each lasso trace of a controller satisfies
-- a specification, or no lasso trace of an environment does.
use Rattle.std.specs.Prelude.{ℕ, List, Result, Ok, Err}
use Rattle.ps_circuit.specs.Circuits.{CircuitData, IsCircuit}
use Rattle.ps_models.specs.Judgements.{IsLosingFor, IsWinningFor}
use Rattle.ps_simulate.specs.Stimuli.{StimulusData}
use Rattle.ps_simulate.specs.declared.role.Role.{Role}
use Rattle.ps_specification.specs.Requirements.{order_in, requirement_of}
use Rattle.ps_tlsf.specs.Names.{names_in, outputs_in}
use Rattle.ps_tlsf.specs.Specifications.{Specification}
use Rattle.ps_program.specs.Outcomes.{Then}
use Rattle.ps_program.specs.Replies.{Reply}
use Rattle.ps_program.specs.Texts.{CutsInTwo, ReadsCircuitText, ReadsSpecificationText}
use Rattle.ps_program.specs.Commands.Verifying.{IsUnjudgedLine, IsToldOf}

-- all lasso traces of a controller's circuit satisfy the specification, or no lasso trace of an environment's does
abbrev pub WinsSpecified : Role → Specification → CircuitData → Type 0
WinsSpecified role spec c = IsWinningFor (order_in spec) role (requirement_of spec) c

-- the stimulus shows that the circuit does not win
abbrev pub LosesSpecified : Role → Specification → CircuitData → StimulusData → Type 0
LosesSpecified role spec c s = IsLosingFor (order_in spec) role (requirement_of spec) c s

-- the line for a circuit that can't be judged by the specification
abbrev pub IsUnjudgedFor : Role → Specification → CircuitData → List ℕ → Type 0
IsUnjudgedFor role spec c line =
    IsUnjudgedLine (order_in spec) role (names_in spec.names) (outputs_in spec.names) c line

-- what is printed for a circuit: that it wins; or a stimulus on which it loses; or the line that reports why it can't
-- be judged
abbrev pub TellsSpecified : Role → Specification → CircuitData → Result Reply (List ℕ) → Type 0
TellsSpecified role spec c (Ok reply) =
    IsCircuit c × IsToldOf (WinsSpecified role spec c) (LosesSpecified role spec c) reply
TellsSpecified role spec c (Err line) = IsUnjudgedFor role spec c line

-- parses a text as a circuit, and judges the circuit by the specification
abbrev pub VerifiesSpecified : Role → Specification → List ℕ → Result Reply (List ℕ) → Type 0
VerifiesSpecified role spec text = Then (ReadsCircuitText text) (TellsSpecified role spec)

-- what the program answers to `verify --tlsf`, given the texts of a specification and of a circuit (a controller or an
-- environment)
abbrev pub AnswersVerifyTlsf : Role → List ℕ → Result Reply (List ℕ) → Type 0
AnswersVerifyTlsf role texts =
    Then (CutsInTwo texts) (λ parts. Then (ReadsSpecificationText parts.0) (λ spec.
    VerifiesSpecified role spec parts.1))

-- the specification and the circuit that the two texts of the input contain
abbrev pub ReadsSpecified : List ℕ → Specification → CircuitData → Type 0
ReadsSpecified texts spec c = (parts : List ℕ × List ℕ) × CutsInTwo texts (Ok parts)
    × ReadsSpecificationText parts.0 (Ok spec) × ReadsCircuitText parts.1 (Ok c)
