-- Two answers of `translate` to a specification are texts of automata that agree with it, or one of them reports a
-- fault.
use Rattle.std.proofs.Common.{◌≡◌, ◌⊎◌, ◌∙◌, ℕ, List, Result, Ok, Err, Some, ap, inl, inr, refl, sym}
use Rattle.ps_text.specs.Answers.{Found}
use Rattle.ps_specification.specs.Translating.{MayGive}
use Rattle.ps_specification.specs.TranslationFaults.{IsTranslationFault}
use Rattle.ps_specification.specs.declared.fault.SpecificationFault.{SpecificationFault}
use Rattle.ps_specification.specs.declared.fault.SpecificationFault.TheVariants as specification
use Rattle.ps_tlsf.specs.Reading.{answer_of}
use Rattle.ps_tlsf.specs.Specifications.{Specification}
use Rattle.ps_tlsf.specs.declared.fault.TlsfCause.{TlsfCause}
use Rattle.ps_program.specs.Laws.Determined.{AgreeAsTranslations, IsFaultReply}
use Rattle.ps_program.specs.Outcomes.{printed}
use Rattle.ps_program.specs.Replies.{Reply}
use Rattle.ps_program.specs.Commands.SynthesisTlsf.{specification_line}
use Rattle.ps_program.specs.Texts.{ReadsSpecificationText}
use Rattle.ps_program.specs.Commands.TranslationTexts.{AnswersTranslate}
use Rattle.ps_program.proofs.AtMostOne.RefusedTexts.{IsRefusedAs, one_or_alike}

module _ (gives : MayGive) (text : List ℕ) where
  -- a text that is refused has only the fault of its first error
  refused_line : (found : Found TlsfCause) (fault : SpecificationFault) (line : List ℕ) →
      answer_of text ≡ Err found → IsTranslationFault gives text fault → specification_line fault ≡ Some line →
      Some line ≡ specification_line (specification.Text found.cause found.offset)
  refused_line found (specification.Text cause offset) line refused h told =
      let same = sym refused ∙ h in
      sym told ∙ ap (λ (f : Found TlsfCause). specification_line (specification.Text f.cause f.offset))
      (let inside : (record { cause = cause; offset = offset }) ≡ found = cc in inside)
  refused_line found specification.NotTranslated line refused h told = let same = sym h.reads ∙ refused in cc
  refused_line found specification.NotJudged line refused h told = let same = sym h.reads ∙ refused in cc
  refused_line found specification.OutOfMemory line refused h told = cc

  abbrev Alike : Result Reply (List ℕ) → Result Reply (List ℕ) → Type 0
  Alike x y = IsFaultReply (printed x) ⊎ IsFaultReply (printed y) ⊎ AgreeAsTranslations text (printed x) (printed y)

  alike : (x y : Result Reply (List ℕ)) → AnswersTranslate gives text x → AnswersTranslate gives text y → Alike x y
  alike (Err line) y h k = inl (line, refl)
  alike (Ok one) (Err line) h k = inr (inl (line, refl))
  alike (Ok one) (Ok other) h k = inr (inr (record {
    one = h.0;
    other = k.0;
    one_translates = h.1;
    other_translates = k.1;
    is_one = h.2;
    is_other = k.2;
  }))

  refused_one : (found : Found TlsfCause) → answer_of text ≡ Err found → (x : Result Reply (List ℕ)) →
      AnswersTranslate gives text x → IsRefusedAs found x
  refused_one found refused (Err line) (fault, h, told) = (line, refl, refused_line found fault line refused h told)
  refused_one found refused (Ok reply) (hoa, keeps, e) = absurd (let same = sym keeps.reads ∙ refused in cc)

  -- two results are equal, or the text is that of a specification, and the two are alike
  pub translate_one_or : (x y : Result Reply (List ℕ)) → AnswersTranslate gives text x →
      AnswersTranslate gives text y → (x ≡ y) ⊎ (((spec : Specification) × ReadsSpecificationText text (Ok spec)) ×
      Alike x y)
  translate_one_or x y h k = one_or_alike text x y (Alike x y) (alike x y h k)
      (λ found refused. refused_one found refused x h) (λ found refused. refused_one found refused y k)
