-- The command that makes a circuit for a specification.
-- - `winner_reply role circuit`: what the program prints for a circuit that answers the specification
-- - `AnswersSynthTlsf proposer text`: what the program answers to `synth --tlsf`
use Rattle.std.specs.Prelude.{◌≡◌, ℕ, Bool, true, false, List, [], ◌++◌, Option, None, Some, Result, Ok, Err}
use Rattle.ps_circuit.specs.Circuits.{CircuitData}
use Rattle.ps_circuit.specs.Written.{text_of}
use Rattle.ps_simulate.specs.declared.role.Role.{Role}
use Rattle.ps_simulate.specs.declared.role.Role.TheVariants.{Controller, Environment}
use Rattle.ps_specification.specs.FaultNames.{fault_name, fault_number}
use Rattle.ps_specification.specs.Faults.{IsSpecificationFault}
use Rattle.ps_specification.specs.Promises.{KeepsSpecification}
use Rattle.ps_specification.specs.Proposing.{ProposerData}
use Rattle.ps_specification.specs.declared.fault.SpecificationFault.{SpecificationFault}
use Rattle.ps_specification.specs.declared.fault.SpecificationFault.TheVariants.{Text, NotTranslated, NotJudged}
use Rattle.ps_specification.specs.declared.fault.SpecificationFault.TheVariants.{OutOfMemory}
use Rattle.ps_synthesis.specs.Printing.{PrintsCircuit}
use Rattle.ps_program.specs.declared.answer.Refusal.{Refusal}
use Rattle.ps_program.specs.Faults.{line_text, text_line}
use Rattle.ps_program.specs.Outcomes.{Then}
use Rattle.ps_program.specs.Replies.{Reply}
use Rattle.ps_program.specs.StageFaults.{IsToldAs}
use Rattle.ps_program.specs.Commands.Synthesis.{verdict_line, verdict_status}

-- whether the circuit is a controller
abbrev pub is_controller : Role → Bool
is_controller Controller = true
is_controller Environment = false

-- the line that states the winner, and then the winner's circuit
abbrev pub winner_reply : Role → CircuitData → Reply
winner_reply role circuit = record {
  text = verdict_line (is_controller role) ++ text_of circuit;
  status = verdict_status (is_controller role);
}

-- the line that reports why a specification gets no circuit; if memory ran out, there is no line (None)
abbrev pub specification_line : SpecificationFault → Option (List ℕ)
specification_line (Text cause offset) =
    Some (text_line (fault_number (Text cause offset)) (fault_name (Text cause offset)) offset)
specification_line NotTranslated = Some (line_text (fault_number NotTranslated) (fault_name NotTranslated) [])
specification_line NotJudged = Some (line_text (fault_number NotJudged) (fault_name NotJudged) [])
specification_line OutOfMemory = None

abbrev pub IsSpecificationTold : SpecificationFault → Refusal → Type 0
IsSpecificationTold fault refused = IsToldAs (specification_line fault) refused

-- the result for the text of a specification: a circuit that answers it, with its role, or the line that reports a
-- fault
abbrev pub AnswersSpecification : ProposerData → List ℕ → Result (Role × CircuitData) (List ℕ) → Type 0
AnswersSpecification proposer text (Ok winner) = KeepsSpecification text winner.0 winner.1
AnswersSpecification proposer text (Err line) =
    (fault : SpecificationFault) × IsSpecificationFault proposer text fault × (specification_line fault ≡ Some line)

-- what the program answers to `synth --tlsf`, given the text of a specification
abbrev pub AnswersSynthTlsf : ProposerData → List ℕ → Result Reply (List ℕ) → Type 0
AnswersSynthTlsf proposer text = Then (AnswersSpecification proposer text) (λ winner outcome.
    PrintsCircuit (text_of winner.1) winner.1 × (outcome ≡ Ok (winner_reply winner.0 winner.1)))
