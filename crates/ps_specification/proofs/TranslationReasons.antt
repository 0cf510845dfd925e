-- The text that a translator gave is a translation of the specification, or there is a reason why it is none.
-- - `within_limits`: a text that describes an automaton exceeds no limit
-- - `is_translation_of`: a text has one file, so it is a translation exactly if that file is one
-- - `translation_text_reason`: a fault of the automaton's text
-- - `translation_reason`: of a fault of a translator's text, for the specification's text
use Rattle.std.proofs.Common.{◌≡◌, ◌≢◌, ◌∙◌, ◌↔◌, ℕ, List, Result, Ok, Err, Some, ap, subst, sym}
use Rattle.ps_text.specs.Answers.{Found}
use Rattle.ps_automaton.specs.Answers.{IsAdmitted, IsRefused}
use Rattle.ps_automaton.specs.declared.fault.AutomatonFault.{AutomatonFault}
use Rattle.ps_automaton.specs.declared.fault.AutomatonFault.TheVariants as automaton
use Rattle.ps_automaton.specs.Automata.{AutomatonData, IsBuiltFrom}
use Rattle.ps_automaton.specs.Chains.{Chain}
use Rattle.ps_hoa.specs.Files.{FileData}
use Rattle.ps_hoa.specs.declared.fault.HoaCause.{HoaCause}
use Rattle.ps_hoa.specs.declared.fault.HoaCause.TheVariants as causes
use Rattle.ps_hoa.specs.Texts.{ReadsFile, at_offset}
use Rattle.ps_models.specs.Agreements.{ArePropositionsOf, IsAcceptedWrongly, IsAgreeing, IsRejectedWrongly}
use Rattle.ps_synthesis.specs.Promises.{IsAcceptedText}
use Rattle.ps_synthesis.specs.Stages.{IsTextFault}
use Rattle.ps_synthesis.specs.SynthFaults.{HasNoAutomaton}
use Rattle.ps_synthesis.specs.declared.fault.SynthFault.{SynthFault}
use Rattle.ps_synthesis.specs.declared.fault.SynthFault.TheVariants as synth
use Rattle.ps_tlsf.specs.Reading.{answer_of}
use Rattle.ps_tlsf.specs.Specifications.{Specification}
use Rattle.ps_specification.specs.Faults.{fault_of_hoa, fault_of_synthesis}
use Rattle.ps_specification.specs.Promises.{HasItsPropositions, IsTranslation, IsTranslationOf}
use Rattle.ps_specification.specs.Requirements.{requirement_of}
use Rattle.ps_specification.specs.Translating.{IsBeyondLimits, MayGive}
use Rattle.ps_specification.specs.TranslationFaults.{IsTranslationFault, IsTranslationFaultBy}
use Rattle.ps_specification.specs.declared.fault.SpecificationFault.{SpecificationFault}
use Rattle.ps_specification.specs.declared.fault.SpecificationFault.TheVariants as specification

-- laws of other crates, on which this file relies: an HOA text has one answer, and a file is admitted or refused
abbrev OneFile : Type 0
OneFile = (text : List ℕ) (a b : Result FileData (Found HoaCause)) → ReadsFile text a → ReadsFile text b → a ≡ b

abbrev Apart : Type 0
Apart = (file : FileData) (fault : AutomatonFault) → fault ≢ automaton.OutOfMemory → IsAdmitted file →
    IsRefused file fault → ⊥

abbrev file_or : FileData → Result FileData (Found HoaCause) → FileData
file_or other (Ok file) = file
file_or other (Err found) = other

abbrev cause_or : HoaCause → Result FileData (Found HoaCause) → HoaCause
cause_or other (Ok file) = other
cause_or other (Err found) = found.cause

module _ (one : OneFile) (hoa : List ℕ) where
  pub within_limits : (file : FileData) → IsAcceptedText hoa file → IsBeyondLimits hoa → ⊥
  within_limits file accepted (at, limit) =
      let same = one hoa (Ok file) (at_offset causes.Limit at) accepted.reads limit in cc

  one_file : (file other : FileData) → IsAcceptedText hoa file → IsAcceptedText hoa other → other ≡ file
  one_file file other accepted accepted' =
      ap (file_or file) (one hoa (Ok other) (Ok file) accepted'.reads accepted.reads)

  pub is_translation_of : (spec : Specification) (file : FileData) {A : Type 0} → IsAcceptedText hoa file →
      A ↔ IsTranslation spec file → A ↔ IsTranslationOf spec hoa
  is_translation_of spec file accepted same = (
    λ a. record { file = file; accepted = accepted; translates = same.0 a },
    λ of. same.1 (subst (λ (f : FileData). IsTranslation spec f) (one_file file of.file accepted of.accepted)
        of.translates),
  )

module _ (one : OneFile) (apart : Apart) (hoa : List ℕ) (spec : Specification) where
  no_limit : (cause : HoaCause) (offset : ℕ) → ReadsFile hoa (at_offset cause offset) → cause ≢ causes.Limit →
      IsBeyondLimits hoa → ⊥
  no_limit cause offset reads other (at, limit) =
      other (ap (cause_or causes.Limit) (one hoa (at_offset cause offset) (at_offset causes.Limit at) reads limit))

  no_file : (cause : HoaCause) (offset : ℕ) → ReadsFile hoa (at_offset cause offset) → IsTranslationOf spec hoa → ⊥
  no_file cause offset reads of =
      let same = one hoa (Ok of.file) (at_offset cause offset) of.accepted.reads reads in cc

  no_limit_in_file : (fault : AutomatonFault) → HasNoAutomaton hoa fault → IsBeyondLimits hoa → ⊥
  no_limit_in_file fault refused (at, limit) =
      let same = one hoa (Ok refused.file) (at_offset causes.Limit at) refused.reads limit in cc

  no_automaton : (fault : AutomatonFault) → HasNoAutomaton hoa fault → IsTranslationOf spec hoa → ⊥
  no_automaton fault refused of =
      let same = one hoa (Ok of.file) (Ok refused.file) of.accepted.reads refused.reads in
      apart refused.file fault refused.cause
      (subst IsAdmitted (ap (file_or of.file) same) of.accepted.admitted) refused.refused

  cause_reason : (cause : HoaCause) (offset : ℕ) → IsTextFault hoa (synth.Text cause offset) →
      IsTranslationFaultBy spec hoa (fault_of_hoa cause)
  cause_reason causes.Limit offset reads = (offset, reads)
  cause_reason cause offset reads = (
    no_limit cause offset reads (λ same. cc),
    no_file cause offset reads,
  )

  pub translation_text_reason : (fault : SynthFault) → IsTextFault hoa fault →
      IsTranslationFaultBy spec hoa (fault_of_synthesis fault)
  translation_text_reason (synth.Text cause offset) h = cause_reason cause offset h
  translation_text_reason (synth.Automaton fault) h = (no_limit_in_file fault h, no_automaton fault h)
  translation_text_reason synth.OutOfMemory h = tt
  translation_text_reason (synth.BadCycle ids) h = absurd h
  translation_text_reason (synth.Certificate cause offset) h = absurd h
  translation_text_reason synth.NotCertified h = absurd h
  translation_text_reason synth.CircuitTooLarge h = absurd h

-- the reason for a fault, once the translator gave a text, is one for the specification's text
pub translation_reason : (Gave : MayGive) (text : List ℕ) (spec : Specification) (hoa : List ℕ) →
    answer_of text ≡ Ok spec → Gave spec (Some hoa) → (fault : SpecificationFault) →
    IsTranslationFaultBy spec hoa fault → IsTranslationFault Gave text fault
translation_reason Gave text spec hoa reads gave specification.NotTranslated h =
    record { spec = spec; reads = reads; given = Some hoa; gave = gave; holds = h }
translation_reason Gave text spec hoa reads gave specification.NotJudged h =
    record { spec = spec; reads = reads; given = Some hoa; gave = gave; holds = h }
translation_reason Gave text spec hoa reads gave specification.OutOfMemory h = tt
translation_reason Gave text spec hoa reads gave (specification.Text cause offset) h = absurd h

-- what a comparison tells of the file from which an automaton was built
module _ (spec : Specification) (file : FileData) (chain : Chain) (a : AutomatonData)
    (built : IsBuiltFrom file chain a) where
  its_file : HasItsPropositions spec a.names a.controllable → HasItsPropositions spec file.names file.controllable
  its_file has = (sym built.names ∙ has.0, sym built.controllable ∙ has.1)

  its_automaton : HasItsPropositions spec file.names file.controllable → HasItsPropositions spec a.names a.controllable
  its_automaton has = (built.names ∙ has.0, built.controllable ∙ has.1)

  pub other_propositions : (HasItsPropositions spec a.names a.controllable → ⊥) → IsTranslation spec file → ⊥
  other_propositions none of = none (its_automaton of.propositions)

  pub translates : HasItsPropositions spec a.names a.controllable → IsAgreeing file (requirement_of spec) →
      IsTranslation spec file
  translates has agree = record { propositions = its_file has; agrees = agree }

  pub accepted_wrongly : (stem lap : List ℕ) → IsAcceptedWrongly file (requirement_of spec) stem lap →
      IsTranslation spec file → ⊥
  accepted_wrongly stem lap wrong of =
      wrong.violates ((of.agrees.agree stem lap wrong.is_lasso).0 wrong.accepts)

  pub rejected_wrongly : (stem lap : List ℕ) → IsRejectedWrongly file (requirement_of spec) stem lap →
      IsTranslation spec file → ⊥
  rejected_wrongly stem lap wrong of =
      wrong.rejects ((of.agrees.agree stem lap wrong.is_lasso).1 wrong.satisfies)

  pub not_compared : (ArePropositionsOf a.names a.controllable (requirement_of spec) → ⊥) →
      IsTranslation spec file → ⊥
  not_compared none of = none (subst (λ (names : List (List ℕ)).
      ArePropositionsOf names a.controllable (requirement_of spec)) (sym built.names)
      (subst (λ (controllable : List ℕ). ArePropositionsOf file.names controllable (requirement_of spec))
      (sym built.controllable) of.agrees.propositions))
