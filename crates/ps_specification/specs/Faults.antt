-- Why a specification gets no circuit. For each fault, these definitions state the reason.
-- - `IsProposalFault proposer spec fault`: the reason for this fault, once the specification was parsed
-- - `IsSpecificationFault proposer text fault`: the reason for which a text gets this fault instead of a circuit; none
--   is stated for `OutOfMemory`
-- - `fault_of_text fault`, `fault_of_synthesis fault`: how a fault of a specification's text, or of an automaton's
--   text, is told
use Rattle.std.specs.Prelude.{◌≡◌, ⊤, ℕ, List, Ok, Err}
use Rattle.ps_hoa.specs.declared.fault.HoaCause.{HoaCause}
use Rattle.ps_hoa.specs.declared.fault.HoaCause.TheVariants as causes
use Rattle.ps_synthesis.specs.declared.fault.SynthFault.{SynthFault}
use Rattle.ps_synthesis.specs.declared.fault.SynthFault.TheVariants as synth
use Rattle.ps_text.specs.declared.faults.Fault.TheVariants as faults
use Rattle.ps_tlsf.specs.Causes.{TlsfFault}
use Rattle.ps_tlsf.specs.Reading.{answer_of}
use Rattle.ps_tlsf.specs.Specifications.{Specification}
use Rattle.ps_specification.specs.Proposing.{ProposerData, ProposesNothing, ProposesWrongly}
use Rattle.ps_specification.specs.declared.fault.SpecificationFault.{SpecificationFault}
use Rattle.ps_specification.specs.declared.fault.SpecificationFault.TheVariants.{Text, NotTranslated, NotJudged}
use Rattle.ps_specification.specs.declared.fault.SpecificationFault.TheVariants.{OutOfMemory}

abbrev pub IsProposalFault : ProposerData → Specification → SpecificationFault → Type 0
IsProposalFault proposer spec NotTranslated = ProposesNothing proposer spec proposer.places
IsProposalFault proposer spec NotJudged = ProposesWrongly proposer spec proposer.places
IsProposalFault proposer spec OutOfMemory = ⊤
IsProposalFault proposer spec (Text cause offset) = ⊥

-- the text is that of a specification, which gets this fault
pub record IsFaultOfSpecification (proposer : ProposerData) (text : List ℕ) (fault : SpecificationFault) : Type 0 where
  pub spec : Specification
  pub reads : answer_of text ≡ Ok spec
  pub reason : IsProposalFault proposer spec fault

abbrev pub IsSpecificationFault : ProposerData → List ℕ → SpecificationFault → Type 0
IsSpecificationFault proposer text (Text cause offset) =
    answer_of text ≡ Err (record { cause = cause; offset = offset })
IsSpecificationFault proposer text OutOfMemory = ⊤
IsSpecificationFault proposer text fault = IsFaultOfSpecification proposer text fault

abbrev pub fault_of_text : TlsfFault → SpecificationFault
fault_of_text (faults.Text cause offset) = Text cause offset
fault_of_text faults.OutOfMemory = OutOfMemory

abbrev pub fault_of_hoa : HoaCause → SpecificationFault
fault_of_hoa causes.Limit = NotTranslated
fault_of_hoa cause = NotJudged

abbrev pub fault_of_synthesis : SynthFault → SpecificationFault
fault_of_synthesis (synth.Text cause offset) = fault_of_hoa cause
fault_of_synthesis synth.OutOfMemory = OutOfMemory
fault_of_synthesis fault = NotJudged
