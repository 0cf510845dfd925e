-- Two results of a command on the text of a specification are equal if the text is refused.
use Rattle.std.proofs.Common.{◌≡◌, ◌⊎◌, ◌∙◌, ℕ, List, Result, Ok, Err, Some, ap, inl, inr, refl, sym}
use Rattle.ps_text.specs.Answers.{Found}
use Rattle.ps_specification.specs.declared.fault.SpecificationFault.TheVariants as specification
use Rattle.ps_tlsf.specs.Reading.{answer_of}
use Rattle.ps_tlsf.specs.Specifications.{Specification}
use Rattle.ps_tlsf.specs.declared.fault.TlsfCause.{TlsfCause}
use Rattle.ps_program.specs.Commands.SynthesisTlsf.{specification_line}
use Rattle.ps_program.specs.Replies.{Reply}
use Rattle.ps_program.specs.Texts.{ReadsSpecificationText}
use Rattle.ps_program.proofs.AtMostOne.OneStep.{err_of}

-- the result is the line that reports the text's first error
abbrev pub IsRefusedAs : Found TlsfCause → Result Reply (List ℕ) → Type 0
IsRefusedAs found x = (line : List ℕ) × (x ≡ Err line)
    × (Some line ≡ specification_line (specification.Text found.cause found.offset))

module _ (text : List ℕ) (x y : Result Reply (List ℕ)) (Alike : Type 0) (alike : Alike)
    (first : (found : Found TlsfCause) → answer_of text ≡ Err found → IsRefusedAs found x)
    (second : (found : Found TlsfCause) → answer_of text ≡ Err found → IsRefusedAs found y) where
  by_reading : (read : Result Specification (Found TlsfCause)) → answer_of text ≡ read →
      (x ≡ y) ⊎ (((spec : Specification) × ReadsSpecificationText text (Ok spec)) × Alike)
  by_reading (Ok spec) reads = inr ((spec, sym reads), alike)
  by_reading (Err found) refused =
      let a = first found refused in
      let b = second found refused in
      let same : a.0 ≡ b.0 = let lines = a.2 ∙ sym b.2 in cc in
      inl (a.1 ∙ ap (err_of {V = Reply} {E = List ℕ}) same ∙ sym b.1)

  -- two results are equal, or the text is that of a specification, and the two are alike
  pub one_or_alike : (x ≡ y) ⊎ (((spec : Specification) × ReadsSpecificationText text (Ok spec)) × Alike)
  one_or_alike = by_reading (answer_of text) refl
