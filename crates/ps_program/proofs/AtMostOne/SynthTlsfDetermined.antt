-- Two answers of `synth --tlsf` to a specification show circuits of the same role, or one of them reports a fault.
use Rattle.std.proofs.Common.{◌≡◌, ◌⊎◌, ◌∙◌, ℕ, List, Result, Ok, Err, Some, ap, inl, inr, refl, subst}
use Rattle.std.proofs.Common.{sym}
use Rattle.ps_text.specs.Answers.{Found}
use Rattle.ps_circuit.specs.Circuits.{CircuitData}
use Rattle.ps_simulate.specs.declared.role.Role.{Role}
use Rattle.ps_simulate.specs.declared.role.Role.TheVariants.{Controller, Environment}
use Rattle.ps_specification.specs.Faults.{IsSpecificationFault}
use Rattle.ps_specification.specs.Promises.{IsAnswerTo, KeepsSpecification}
use Rattle.ps_specification.specs.Proposing.{ProposerData}
use Rattle.ps_specification.specs.declared.fault.SpecificationFault.{SpecificationFault}
use Rattle.ps_specification.specs.declared.fault.SpecificationFault.TheVariants as specification
use Rattle.ps_tlsf.specs.Reading.{answer_of}
use Rattle.ps_tlsf.specs.Specifications.{Specification}
use Rattle.ps_tlsf.specs.declared.fault.TlsfCause.{TlsfCause}
use Rattle.ps_program.specs.Laws.Determined.{AgreeInRole, IsFaultReply}
use Rattle.ps_program.specs.Outcomes.{printed}
use Rattle.ps_program.specs.Replies.{Reply}
use Rattle.ps_program.specs.Commands.SynthesisTlsf.{AnswersSynthTlsf, specification_line, winner_reply}
use Rattle.ps_program.specs.Texts.{ReadsSpecificationText}
use Rattle.ps_program.proofs.AtMostOne.RefusedTexts.{IsRefusedAs, one_or_alike}

-- a law of another crate, on which this file relies: no specification has both a controller and an environment that win
abbrev pub NotBothPlayers : Type 0
NotBothPlayers = (text : List ℕ) (spec : Specification) (c e : CircuitData) → answer_of text ≡ Ok spec →
    IsAnswerTo spec Controller c → IsAnswerTo spec Environment e → ⊥

abbrev Read : Type 0
Read = Result Specification (Found TlsfCause)

abbrev spec_or : Specification → Read → Specification
spec_or other (Ok spec) = spec
spec_or other (Err found) = other

one_spec : (text : List ℕ) (spec other : Specification) → answer_of text ≡ Ok spec → answer_of text ≡ Ok other →
    other ≡ spec
one_spec text spec other reads same = ap (spec_or spec) (sym same ∙ reads)

module _ (apart : NotBothPlayers) (text : List ℕ) where
  role_one : (role other : Role) (c d : CircuitData) → KeepsSpecification text role c →
      KeepsSpecification text other d →
      role ≡ other
  role_one Controller Controller c d h k = refl
  role_one Environment Environment c d h k = refl
  role_one Controller Environment c d h k = absurd (apart text h.spec c d h.reads h.answers
      (subst (λ (spec : Specification). IsAnswerTo spec Environment d)
      (one_spec text h.spec k.spec h.reads k.reads) k.answers))
  role_one Environment Controller c d h k = absurd (apart text k.spec d c k.reads k.answers
      (subst (λ (spec : Specification). IsAnswerTo spec Environment c)
      (one_spec text k.spec h.spec k.reads h.reads) h.answers))

  module _ (proposer : ProposerData) where
    -- a text that is refused has only the fault of its first error
    refused_line : (found : Found TlsfCause) (fault : SpecificationFault) (line : List ℕ) →
        answer_of text ≡ Err found → IsSpecificationFault proposer text fault →
        specification_line fault ≡ Some line →
        Some line ≡ specification_line (specification.Text found.cause found.offset)
    refused_line found (specification.Text cause offset) line refused h told =
        let same = sym refused ∙ h in
        sym told ∙ ap (λ (f : Found TlsfCause). specification_line (specification.Text f.cause f.offset))
        (let inside : (record { cause = cause; offset = offset }) ≡ found = cc in inside)
    refused_line found specification.NotTranslated line refused h told =
        let same = sym h.reads ∙ refused in cc
    refused_line found specification.NotJudged line refused h told = let same = sym h.reads ∙ refused in cc
    refused_line found specification.OutOfMemory line refused h told = cc

    abbrev Alike : Result Reply (List ℕ) → Result Reply (List ℕ) → Type 0
    Alike x y = IsFaultReply (printed x) ⊎ IsFaultReply (printed y) ⊎ AgreeInRole text (printed x) (printed y)

    alike : (x y : Result Reply (List ℕ)) → AnswersSynthTlsf proposer text x →
        AnswersSynthTlsf proposer text y → Alike x y
    alike x y (inl (line, h, e)) k = inl (line, ap printed e)
    alike x y (inr (winner, h, e)) (inl (line, k, f)) = inr (inl (line, ap printed f))
    alike x y (inr (winner, h, e)) (inr (other, k, f)) =
        let same = role_one winner.0 other.0 winner.1 other.1 h k in
        inr (inr (record {
          role = winner.0;
          one = winner.1;
          other = other.1;
          one_answers = h;
          other_answers = subst (λ (role : Role). KeepsSpecification text role other.1) (sym same) k;
          is_one = ap printed e.1;
          is_other = ap printed f.1 ∙ ap (λ (role : Role). winner_reply role other.1) (sym same);
        }))

    refused_one : (found : Found TlsfCause) → answer_of text ≡ Err found → (x : Result Reply (List ℕ)) →
        AnswersSynthTlsf proposer text x → IsRefusedAs found x
    refused_one found refused x (inl (line, (fault, h, told), e)) =
        (line, e, refused_line found fault line refused h told)
    refused_one found refused x (inr (winner, h, e)) = absurd (let same = sym h.reads ∙ refused in cc)

    -- two results are equal, or the text is that of a specification, and the two are alike
    pub synth_tlsf_one_or : (x y : Result Reply (List ℕ)) → AnswersSynthTlsf proposer text x →
        AnswersSynthTlsf proposer text y →
        (x ≡ y) ⊎ (((spec : Specification) × ReadsSpecificationText text (Ok spec)) × Alike x y)
    synth_tlsf_one_or x y h k = one_or_alike text x y (Alike x y) (alike x y h k)
        (λ found refused. refused_one found refused x h) (λ found refused. refused_one found refused y k)
