-- The command `shrink --tlsf`. The answer of `shrink --tlsf` is a circuit that wins for a specification, as the given
-- one does, and is not larger; or a stimulus on which the given circuit loses.
use Rattle.std.specs.Prelude.{ℕ, List, Result, Ok, Err}
use Rattle.ps_circuit.specs.Circuits.{CircuitData, IsCircuit}
use Rattle.ps_simulate.specs.declared.role.Role.{Role}
use Rattle.ps_tlsf.specs.Specifications.{Specification}
use Rattle.ps_program.specs.Outcomes.{Then}
use Rattle.ps_program.specs.Replies.{Reply}
use Rattle.ps_program.specs.Commands.Shrinking.{IsReducedTo}
use Rattle.ps_program.specs.Texts.{CutsInTwo, ReadsCircuitText, ReadsSpecificationText}
use Rattle.ps_program.specs.Commands.VerifyingTlsf.{IsUnjudgedFor, LosesSpecified, WinsSpecified}

-- what is printed for a circuit: a smaller one that wins too, or one of the same size; or a stimulus on which the
-- circuit loses; or the line that reports why it can't be judged
abbrev pub TellsReductionFor : Role → Specification → CircuitData → Result Reply (List ℕ) → Type 0
TellsReductionFor role spec c (Ok reply) =
    IsCircuit c × IsReducedTo (WinsSpecified role spec) (LosesSpecified role spec) c reply
TellsReductionFor role spec c (Err line) = IsUnjudgedFor role spec c line

-- parses a text as a circuit, and makes the circuit smaller
abbrev pub ShrinksSpecified : Role → Specification → List ℕ → Result Reply (List ℕ) → Type 0
ShrinksSpecified role spec text = Then (ReadsCircuitText text) (TellsReductionFor role spec)

-- what the program answers to `shrink --tlsf`, given the texts of a specification and of a circuit (a controller or an
-- environment)
abbrev pub AnswersShrinkTlsf : Role → List ℕ → Result Reply (List ℕ) → Type 0
AnswersShrinkTlsf role texts =
    Then (CutsInTwo texts) (λ parts. Then (ReadsSpecificationText parts.0) (λ spec.
    ShrinksSpecified role spec parts.1))
