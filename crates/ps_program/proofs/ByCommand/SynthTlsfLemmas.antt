-- The result of synthesis for a specification determines the possible results of the command `synth --tlsf`.
use Rattle.std.proofs.Common.{ℕ, List, Err, refl, inl}
use Rattle.ps_specification.specs.Faults.{IsSpecificationFault}
use Rattle.ps_specification.specs.Proposing.{ProposerData}
use Rattle.ps_specification.specs.declared.fault.SpecificationFault.{SpecificationFault}
use Rattle.ps_program.specs.declared.answer.Answer.{Answer}
use Rattle.ps_program.specs.declared.answer.Refusal.{Refusal}
use Rattle.ps_program.specs.declared.answer.Refusal.TheVariants as refusal
use Rattle.ps_program.specs.Faults.{fault_text}
use Rattle.ps_program.specs.Outcomes.{Gives}
use Rattle.ps_program.specs.Replies.{reply_of}
use Rattle.ps_program.specs.Commands.SynthesisTlsf.{AnswersSynthTlsf, IsSpecificationTold}

-- a fault of synthesis for the specification is the fault that `synth --tlsf` reports
pub specification_fault : (proposer : ProposerData) (text : List ℕ) (fault : SpecificationFault) (refused : Refusal) →
    IsSpecificationFault proposer text fault → IsSpecificationTold fault refused →
    Gives {X = Answer} reply_of (AnswersSynthTlsf proposer text) (Err refused)
specification_fault proposer text fault (refusal.Fault line) cause told =
    inl (fault_text line, (fault, cause, told), refl)
specification_fault proposer text fault refusal.OutOfMemory cause told = tt
