-- `verify` answers `wins` for each circuit that `shrink` prints in the place of a circuit that wins.
use Rattle.std.proofs.Common.{◌≡◌, ◌⊎◌, ℕ, List, Result, Ok, refl, sym, ap, subst, inl, inr}
use Rattle.ps_circuit.specs.Circuits.{CircuitData, IsCircuit}
use Rattle.ps_circuit.specs.Texts.{ReadsCircuit}
use Rattle.ps_hoa.specs.Files.{FileData}
use Rattle.ps_machine.specs.declared.key.Order.{Order}
use Rattle.ps_simulate.specs.declared.role.Role.{Role}
use Rattle.ps_verify.specs.Judgements.{IsLosing, IsWinning}
use Rattle.ps_program.specs.Automata.{ReadsAutomaton}
use Rattle.ps_program.specs.Laws.Determined.{AgreeAsLosing}
use Rattle.ps_program.specs.Laws.Exchanged.{VerifiesSmaller}
use Rattle.ps_program.specs.Outcomes.{printed}
use Rattle.ps_program.specs.Replies.{Reply}
use Rattle.ps_program.specs.Commands.Shrinking.{IsSmallerReply}
use Rattle.ps_program.specs.Texts.{CutsInTwo, ReadsCircuitText}
use Rattle.ps_program.specs.Commands.Verifying.{AnswersVerify, ReadsVerified, wins_reply}
use Rattle.ps_program.proofs.AtMostOne.OneStep.{IsOne}
use Rattle.ps_program.proofs.Exchanged.VerifiedCircuits.{not_losing}
use Rattle.ps_program.proofs.AtMostOne.VerifyDetermined.{NotBoth, verify_one_or}

-- a law of another crate, on which this file relies: what a text describes is a circuit
abbrev pub ReadIsCircuit : Type 0
ReadIsCircuit = (text : List ℕ) (c : CircuitData) → ReadsCircuit text (Ok c) → IsCircuit c

module _ (automata : (text : List ℕ) → IsOne (ReadsAutomaton text)) (circuits : (text : List ℕ) →
    IsOne (ReadsCircuitText text)) (apart : NotBoth) (is_read : ReadIsCircuit) where
  module _ (order : Order) (role : Role) (file : FileData) (c : CircuitData) (text texts : List ℕ) (reply : Reply)
      (automaton : ReadsAutomaton text (Ok file)) (is : IsSmallerReply (IsWinning order role file) c reply)
      (cuts : CutsInTwo texts (Ok (text, reply.text))) where
    reads : ReadsCircuit reply.text (Ok is.small)
    reads = subst (λ bytes. ReadsCircuit bytes (Ok is.small)) (sym (ap (λ (r : Reply). r.text) is.is)) is.reads

    answered : AnswersVerify order role texts (Ok wins_reply)
    answered = inr (
      (text, reply.text),
      cuts,
      inr (
        file,
        automaton,
        inr (is.small, reads, (is_read reply.text is.small reads, inl (is.smaller.wins, refl))),
      ),
    )

    only : (outcome : Result Reply (List ℕ)) → AnswersVerify order role texts outcome → outcome ≡ Ok wins_reply
    only outcome h = by (verify_one_or automata circuits apart order role outcome (Ok wins_reply) texts h answered)
      where
        by : (outcome ≡ Ok wins_reply) ⊎ ((f : FileData) × (d : CircuitData) × ReadsVerified texts f d ×
            AgreeAsLosing (IsLosing order role f d) (printed outcome) wins_reply) → outcome ≡ Ok wins_reply
        by (inl same) = same
        by (inr (f, d, verified, agree)) = absurd (not_losing agree.other agree.is_other)

  pub smaller_verified : VerifiesSmaller
  smaller_verified order role file c text texts reply outcome automaton is cuts = (
    only order role file c text texts reply automaton is cuts outcome,
    (λ same. subst (AnswersVerify order role texts) (sym same)
        (answered order role file c text texts reply automaton is cuts)),
  )
