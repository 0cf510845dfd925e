-- The answer of `agree` is determined, except for the lasso on which automaton and specification differ.
use Rattle.std.proofs.Common.{◌≡◌, ◌⊎◌, ◌∙◌, ℕ, List, Result, Ok, Err, ap, inl, inr, refl, sym}
use Rattle.std.specs.Prelude.{length}
use Rattle.ps_hoa.specs.Files.{FileData}
use Rattle.ps_models.specs.Agreements.{ArePropositionsOf, IsAgreeing, IsAgreementOf}
use Rattle.ps_models.specs.declared.agreement.Agreement.{Agreement}
use Rattle.ps_models.specs.declared.agreement.Agreement.TheVariants.{Accepts, Agrees, Rejects}
use Rattle.ps_specification.specs.Requirements.{requirement_of}
use Rattle.ps_tlsf.specs.Specifications.{Specification}
use Rattle.ps_program.specs.Automata.{ReadsAutomaton}
use Rattle.ps_program.specs.Commands.Comparing.{AnswersAgree, ReadsCompared, TellsAgreement, TellsDifference}
use Rattle.ps_program.specs.Commands.Comparing.{agreement_text}
use Rattle.ps_program.specs.Laws.Determined.{AgreeAsDiffering}
use Rattle.ps_program.specs.Outcomes.{printed}
use Rattle.ps_program.specs.Replies.{Reply, text_reply}
use Rattle.ps_program.specs.Texts.{ReadsSpecificationText}
use Rattle.ps_program.proofs.AtMostOne.JudgedTexts.{both_one_or}
use Rattle.ps_program.proofs.AtMostOne.OneSatisfaction.{specification_one}
use Rattle.ps_program.proofs.AtMostOne.OneStep.{IsOne, err_of, ok_of}

module _ (spec : Specification) (file : FileData) where
  abbrev Is : Agreement → Type 0
  Is agreement = IsAgreementOf file (requirement_of spec) agreement

  propositions_of : (agreement : Agreement) → Is agreement →
      ArePropositionsOf file.names file.controllable (requirement_of spec)
  propositions_of Agrees is = is.propositions
  propositions_of (Accepts lasso) is = is.propositions
  propositions_of (Rejects lasso) is = is.propositions

  -- the two agree, or the answer tells a difference
  agrees_or : (agreement : Agreement) → Is agreement →
      ((agreement ≡ Agrees) × IsAgreeing file (requirement_of spec)) ⊎ TellsDifference spec file agreement
  agrees_or Agrees is = inl (refl, is)
  agrees_or (Accepts lasso) is = inr is
  agrees_or (Rejects lasso) is = inr is

  apart : IsAgreeing file (requirement_of spec) → (agreement : Agreement) → TellsDifference spec file agreement → ⊥
  apart agree Agrees differs = differs
  apart agree (Accepts lasso) differs =
      differs.violates ((agree.agree lasso.stem.items lasso.lap.items differs.is_lasso).0 differs.accepts)
  apart agree (Rejects lasso) differs =
      differs.rejects ((agree.agree lasso.stem.items lasso.lap.items differs.is_lasso).1 differs.satisfies)

  abbrev reply : Agreement → Reply
  reply agreement = text_reply (agreement_text (length spec.names) agreement)

  agreements_one_or : (one other : Agreement) → Is one → Is other →
      (reply one ≡ reply other) ⊎ (TellsDifference spec file one × TellsDifference spec file other)
  agreements_one_or one other is is' = by (agrees_or one is) (agrees_or other is')
    where
      by : ((one ≡ Agrees) × IsAgreeing file (requirement_of spec)) ⊎ TellsDifference spec file one →
          ((other ≡ Agrees) × IsAgreeing file (requirement_of spec)) ⊎ TellsDifference spec file other →
          (reply one ≡ reply other) ⊎ (TellsDifference spec file one × TellsDifference spec file other)
      by (inl (same, agree)) (inl (same', agree')) = inl (ap reply (same ∙ sym same'))
      by (inl (same, agree)) (inr differs) = absurd (apart agree other differs)
      by (inr differs) (inl (same, agree)) = absurd (apart agree one differs)
      by (inr differs) (inr differs') = inr (differs, differs')

  told_one_or : (r t : Reply) → TellsAgreement spec file (Ok r) → TellsAgreement spec file (Ok t) →
      (r ≡ t) ⊎ AgreeAsDiffering spec file r t
  told_one_or r t (one, is, e) (other, is', e') = by (agreements_one_or one other is is')
    where
      by : (reply one ≡ reply other) ⊎ (TellsDifference spec file one × TellsDifference spec file other) →
          (r ≡ t) ⊎ AgreeAsDiffering spec file r t
      by (inl same) = inl (e ∙ same ∙ sym e')
      by (inr differ) = inr (record {
        one = one;
        other = other;
        one_differs = differ.0;
        other_differs = differ.1;
        is_one = e;
        is_other = e';
      })

  compared_one_or : (x y : Result Reply (List ℕ)) → TellsAgreement spec file x → TellsAgreement spec file y →
      (x ≡ y) ⊎ AgreeAsDiffering spec file (printed x) (printed y)
  compared_one_or (Ok r) (Ok t) h k = by (told_one_or r t h k)
    where
      by : (r ≡ t) ⊎ AgreeAsDiffering spec file r t →
          (ok_of {V = Reply} {E = List ℕ} r ≡ Ok t) ⊎ AgreeAsDiffering spec file r t
      by (inl same) = inl (ap (ok_of {V = Reply} {E = List ℕ}) same)
      by (inr agree) = inr agree
  compared_one_or (Ok r) (Err m) h k = absurd (k.0 (propositions_of h.0 h.1))
  compared_one_or (Err l) (Ok t) h k = absurd (h.0 (propositions_of k.0 k.1))
  compared_one_or (Err l) (Err m) h k = inl (ap (err_of {V = Reply} {E = List ℕ}) (h.1 ∙ sym k.1))

-- two results for the same texts of a specification and an automaton are equal, or each of them tells a lasso on which
-- the two differ
pub agree_one_or : (automata : (text : List ℕ) → IsOne (ReadsAutomaton text)) (x y : Result Reply (List ℕ))
    (texts : List ℕ) → AnswersAgree texts x → AnswersAgree texts y → (x ≡ y) ⊎ ((spec : Specification) ×
    (file : FileData) × ReadsCompared texts spec file × AgreeAsDiffering spec file (printed x) (printed y))
agree_one_or automata x y texts h k =
    both_one_or ReadsSpecificationText ReadsAutomaton TellsAgreement
    (λ spec file. AgreeAsDiffering spec file (printed x) (printed y)) specification_one automata x y
    (λ spec file. compared_one_or spec file x y) texts h k
