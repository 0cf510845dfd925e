-- `verify --tlsf` answers `wins` for each circuit that `shrink --tlsf` prints in the place of a circuit that wins.
use Rattle.std.proofs.Common.{◌≡◌, ◌⊎◌, ℕ, List, Result, Ok, refl, sym, ap, subst, inl, inr}
use Rattle.ps_circuit.specs.Circuits.{CircuitData}
use Rattle.ps_circuit.specs.Texts.{ReadsCircuit}
use Rattle.ps_simulate.specs.declared.role.Role.{Role}
use Rattle.ps_tlsf.specs.Specifications.{Specification}
use Rattle.ps_program.specs.Laws.Determined.{AgreeAsLosing}
use Rattle.ps_program.specs.Laws.Exchanged.{VerifiesSmallerSpecified}
use Rattle.ps_program.specs.Outcomes.{printed}
use Rattle.ps_program.specs.Replies.{Reply}
use Rattle.ps_program.specs.Commands.Shrinking.{IsSmallerReply}
use Rattle.ps_program.specs.Texts.{CutsInTwo, ReadsCircuitText, ReadsSpecificationText}
use Rattle.ps_program.specs.Commands.Verifying.{wins_reply}
use Rattle.ps_program.specs.Commands.VerifyingTlsf.{AnswersVerifyTlsf, LosesSpecified, ReadsSpecified, WinsSpecified}
use Rattle.ps_program.proofs.AtMostOne.OneStep.{IsOne}
use Rattle.ps_program.proofs.Exchanged.SmallerVerified.{ReadIsCircuit}
use Rattle.ps_program.proofs.Exchanged.VerifiedCircuits.{not_losing}
use Rattle.ps_program.proofs.AtMostOne.VerifyTlsfDetermined.{NotBothFor, verify_tlsf_one_or}

module _ (circuits : (text : List ℕ) → IsOne (ReadsCircuitText text)) (apart : NotBothFor) (is_read : ReadIsCircuit)
  where
    module _ (role : Role) (spec : Specification) (c : CircuitData) (text texts : List ℕ) (reply : Reply)
        (specification : ReadsSpecificationText text (Ok spec)) (is : IsSmallerReply (WinsSpecified role spec) c reply)
        (cuts : CutsInTwo texts (Ok (text, reply.text))) where
      reads : ReadsCircuit reply.text (Ok is.small)
      reads = subst (λ bytes. ReadsCircuit bytes (Ok is.small)) (sym (ap (λ (r : Reply). r.text) is.is)) is.reads

      answered : AnswersVerifyTlsf role texts (Ok wins_reply)
      answered = inr (
        (text, reply.text),
        cuts,
        inr (
          spec,
          specification,
          inr (is.small, reads, (is_read reply.text is.small reads, inl (is.smaller.wins, refl))),
        ),
      )

      only : (outcome : Result Reply (List ℕ)) → AnswersVerifyTlsf role texts outcome → outcome ≡ Ok wins_reply
      only outcome h = by (verify_tlsf_one_or circuits apart role outcome (Ok wins_reply) texts h answered)
        where
          by : (outcome ≡ Ok wins_reply) ⊎ ((s : Specification) × (d : CircuitData) × ReadsSpecified texts s d ×
              AgreeAsLosing (LosesSpecified role s d) (printed outcome) wins_reply) → outcome ≡ Ok wins_reply
          by (inl same) = same
          by (inr (s, d, verified, agree)) = absurd (not_losing agree.other agree.is_other)

    pub smaller_specified : VerifiesSmallerSpecified
    smaller_specified role spec c text texts reply outcome specification is cuts = (
      only role spec c text texts reply specification is cuts outcome,
      (λ same. subst (AnswersVerifyTlsf role texts) (sym same)
          (answered role spec c text texts reply specification is cuts)),
    )
