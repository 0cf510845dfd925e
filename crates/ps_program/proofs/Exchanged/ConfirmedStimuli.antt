-- `lasso --tlsf` answers `violated`, or with `--env` `satisfied`, for each stimulus that `verify --tlsf` prints.
use Rattle.std.proofs.Common.{◌≡◌, ℕ, List, Result, Ok, refl, sym, subst, inl, inr}
use Rattle.std.specs.Prelude.{◌↔◌}
use Rattle.ps_circuit.specs.Circuits.{CircuitData}
use Rattle.ps_models.specs.Judgements.{IsSatisfied}
use Rattle.ps_simulate.specs.Lassos.{IsWordOf}
use Rattle.ps_simulate.specs.Stimuli.{StimulusData}
use Rattle.ps_simulate.specs.Words.{TraceWordData}
use Rattle.ps_simulate.specs.declared.role.Role.{Role}
use Rattle.ps_simulate.specs.declared.role.Role.TheVariants.{Controller, Environment}
use Rattle.ps_specification.specs.Requirements.{requirement_of}
use Rattle.ps_tlsf.specs.Names.{names_in, outputs_in}
use Rattle.ps_tlsf.specs.Specifications.{Specification}
use Rattle.ps_program.specs.Laws.Exchanged.{ConfirmsLosing, confirming_reply}
use Rattle.ps_program.specs.Replies.{Reply}
use Rattle.ps_program.specs.Commands.Satisfying.{AnswersLassoTlsf, IsToldBy, TellsSatisfaction}
use Rattle.ps_program.specs.Texts.{CutsInThree, ReadsCircuitText, ReadsSpecificationText}
use Rattle.ps_program.specs.Commands.Verifying.{stimulus_text}
use Rattle.ps_program.specs.Commands.VerifyingTlsf.{LosesSpecified}
use Rattle.ps_specification.proofs.DistinctNames.{are_distinct}
use Rattle.ps_program.proofs.AtMostOne.OneSatisfaction.{OneWord, lasso_tlsf_one}
use Rattle.ps_program.proofs.AtMostOne.OneStage.{OneCircuit, OneStimulus}
use Rattle.ps_program.proofs.Exchanged.PrintedStimuli.{stimulus_read}
use Rattle.ps_program.proofs.Exchanged.SmallerVerified.{ReadIsCircuit}
use Rattle.ps_program.proofs.AtLeastOne.SomeLaws.{NamesDiffer, WordIsThere}

-- a law of another crate, on which this file relies: on a stimulus on which a circuit loses, its word is the wrong one
abbrev pub WordIsWrong : Type 0
WordIsWrong = (role : Role) (spec : Specification) (c : CircuitData) (s : StimulusData) (word : TraceWordData) →
    LosesSpecified role spec c s → IsWordOf (names_in spec.names) c s.stem s.lap word →
    IsSatisfied (requirement_of spec) word.stem word.lap ↔ (role ≡ Environment)

told_wrong : (role : Role) (spec : Specification) (word : TraceWordData) →
    (IsSatisfied (requirement_of spec) word.stem word.lap ↔ (role ≡ Environment)) →
    IsToldBy spec.whole word (confirming_reply role word)
told_wrong Controller spec word wrong = inr (λ satisfied. (let same = wrong.0 satisfied in cc), refl)
told_wrong Environment spec word wrong = inl (wrong.1 refl, refl)

module _ (circuits : OneCircuit) (is_read : ReadIsCircuit) (stimuli : OneStimulus) (words : OneWord)
    (names_differ : NamesDiffer) (some_word : WordIsThere) (wrong : WordIsWrong) where
  module _ (role : Role) (spec : Specification) (c : CircuitData) (s : StimulusData) (tlsf aag texts : List ℕ)
      (reads : ReadsSpecificationText tlsf (Ok spec)) (read : ReadsCircuitText aag (Ok c))
      (loses : LosesSpecified role spec c s) (cuts : CutsInThree texts (Ok (tlsf, aag, stimulus_text s))) where
    found : (word : TraceWordData) × IsWordOf (names_in spec.names) c s.stem s.lap word
    found = some_word role (names_in spec.names) (outputs_in spec.names) c s.stem s.lap
        (are_distinct (names_in spec.names) (names_differ tlsf spec (sym reads))) (is_read aag c read) loses.symbols
        loses.wide loses.some

    abbrev reply : Reply
    reply = confirming_reply role found.0

    told : TellsSatisfaction role spec c s (Ok reply)
    told = (
      is_read aag c read,
      loses.some,
      loses.symbols,
      (found.0, found.1, told_wrong role spec found.0 (wrong role spec c s found.0 loses found.1)),
    )

    answered : AnswersLassoTlsf role texts (Ok reply)
    answered = inr (
      (tlsf, aag, stimulus_text s),
      cuts,
      inr (spec, reads, inr (c, read, inr (s, stimulus_read c s loses.wide, told))),
    )

    confirmed : (outcome : Result Reply (List ℕ)) → AnswersLassoTlsf role texts outcome ↔ (outcome ≡ Ok reply)
    confirmed outcome = (
      λ h. lasso_tlsf_one circuits stimuli words role texts outcome (Ok reply) h answered,
      λ same. subst (AnswersLassoTlsf role texts) (sym same) answered,
    )

  pub losing_confirmed : ConfirmsLosing
  losing_confirmed role spec c s tlsf aag texts reads read loses cuts = (
    (found role spec c s tlsf aag texts reads read loses cuts).0,
    (found role spec c s tlsf aag texts reads read loses cuts).1,
    confirmed role spec c s tlsf aag texts reads read loses cuts,
  )
