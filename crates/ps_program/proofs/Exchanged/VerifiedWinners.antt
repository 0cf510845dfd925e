-- `verify --tlsf` answers `wins` for each circuit that `synth --tlsf` prints.
use Rattle.std.proofs.Common.{◌≡◌, ◌⊎◌, ℕ, List, Result, Ok, inl, inr, refl, subst, sym}
use Rattle.ps_circuit.specs.Circuits.{CircuitData}
use Rattle.ps_circuit.specs.Written.{text_of}
use Rattle.ps_simulate.specs.declared.role.Role.{Role}
use Rattle.ps_specification.specs.Promises.{KeepsSpecification}
use Rattle.ps_synthesis.specs.Printing.{PrintsCircuit}
use Rattle.ps_tlsf.specs.Specifications.{Specification}
use Rattle.ps_program.specs.Laws.Determined.{AgreeAsLosing}
use Rattle.ps_program.specs.Laws.Exchanged.{VerifiesWinners}
use Rattle.ps_program.specs.Outcomes.{printed}
use Rattle.ps_program.specs.Replies.{Reply}
use Rattle.ps_program.specs.Texts.{CutsInTwo, ReadsCircuitText}
use Rattle.ps_program.specs.Commands.Verifying.{wins_reply}
use Rattle.ps_program.specs.Commands.VerifyingTlsf.{AnswersVerifyTlsf, LosesSpecified, ReadsSpecified}
use Rattle.ps_program.proofs.AtMostOne.OneStep.{IsOne}
use Rattle.ps_program.proofs.Exchanged.VerifiedCircuits.{not_losing}
use Rattle.ps_program.proofs.AtMostOne.VerifyTlsfDetermined.{NotBothFor, verify_tlsf_one_or}

module _ (circuits : (text : List ℕ) → IsOne (ReadsCircuitText text)) (apart : NotBothFor) (text texts : List ℕ)
    (role : Role) (circuit : CircuitData) (keeps : KeepsSpecification text role circuit)
    (prints : PrintsCircuit (text_of circuit) circuit) (cuts : CutsInTwo texts (Ok (text, text_of circuit))) where
  answered : AnswersVerifyTlsf role texts (Ok wins_reply)
  answered = inr (
    (text, text_of circuit),
    cuts,
    inr (
      keeps.spec,
      sym keeps.reads,
      inr (circuit, prints.read_again, (keeps.answers.is_circuit, inl (keeps.answers.wins, refl))),
    ),
  )

  only : (outcome : Result Reply (List ℕ)) → AnswersVerifyTlsf role texts outcome → outcome ≡ Ok wins_reply
  only outcome h = by (verify_tlsf_one_or circuits apart role outcome (Ok wins_reply) texts h answered)
    where
      by : (outcome ≡ Ok wins_reply) ⊎ ((spec : Specification) × (c : CircuitData) × ReadsSpecified texts spec c ×
          AgreeAsLosing (LosesSpecified role spec c) (printed outcome) wins_reply) → outcome ≡ Ok wins_reply
      by (inl same) = same
      by (inr (spec, c, reads, agree)) = absurd (not_losing agree.other agree.is_other)

pub winners_verified : (circuits : (text : List ℕ) → IsOne (ReadsCircuitText text)) → NotBothFor → VerifiesWinners
winners_verified circuits apart text texts role circuit outcome keeps prints cuts = (
  only circuits apart text texts role circuit keeps prints cuts outcome,
  (λ same. subst (AnswersVerifyTlsf role texts) (sym same)
      (answered circuits apart text texts role circuit keeps prints cuts)),
)
