-- The answer of `verify` is determined, except for the stimulus on which the circuit loses.
use Rattle.std.proofs.Common.{◌≡◌, ◌⊎◌, ℕ, List, Result, Ok, Err, ap, inl, inr}
use Rattle.ps_circuit.specs.Circuits.{CircuitData}
use Rattle.ps_hoa.specs.Files.{FileData}
use Rattle.ps_machine.specs.declared.key.Order.{Order}
use Rattle.ps_simulate.specs.Stimuli.{StimulusData}
use Rattle.ps_simulate.specs.declared.role.Role.{Role}
use Rattle.ps_verify.specs.Judgements.{IsLosing, IsWinning}
use Rattle.ps_program.specs.Automata.{ReadsAutomaton}
use Rattle.ps_program.specs.Laws.Determined.{AgreeAsLosing}
use Rattle.ps_program.specs.Outcomes.{printed}
use Rattle.ps_program.specs.Replies.{Reply}
use Rattle.ps_program.specs.Texts.{ReadsCircuitText}
use Rattle.ps_program.specs.Commands.Verifying.{AnswersVerify, IsProductLine, IsToldOf, ReadsVerified, TellsJudgement}
use Rattle.ps_program.proofs.AtMostOne.JudgedTexts.{judged_one_or, no_fault, one_line, told_one_or}
use Rattle.ps_program.proofs.AtMostOne.OneStep.{IsOne, err_of, ok_of}

-- a law of another crate, on which this file relies: no circuit both wins and loses
abbrev pub NotBoth : Type 0
NotBoth = (order : Order) (role : Role) (file : FileData) (c : CircuitData) (s : StimulusData) →
    IsWinning order role file c → ¬ IsLosing order role file c s

module _ (order : Order) (role : Role) (file : FileData) (c : CircuitData) where
  told_no_fault : (reply : Reply) (line : List ℕ) →
      IsToldOf (IsWinning order role file c) (IsLosing order role file c) reply →
      IsProductLine order role file c line → ⊥
  told_no_fault reply line (inl (wins, e)) fault =
      no_fault order role file.names file.controllable c wins.symbols wins.in_time line fault
  told_no_fault reply line (inr (s, loses, e)) fault =
      no_fault order role file.names file.controllable c loses.symbols loses.in_time line fault

  abbrev Agree : Result Reply (List ℕ) → Result Reply (List ℕ) → Type 0
  Agree x y = AgreeAsLosing (IsLosing order role file c) (printed x) (printed y)

  judgement_one_or : NotBoth → (x y : Result Reply (List ℕ)) → TellsJudgement order role file c x →
      TellsJudgement order role file c y → (x ≡ y) ⊎ Agree x y
  judgement_one_or apart (Ok r) (Ok t) h k =
      elim (told_one_or _ (IsLosing order role file c) (apart order role file c) r t h.1 k.1) [
        | inl same ↦ inl (ap (ok_of {V = Reply} {E = List ℕ}) same)
        | inr agree ↦ inr agree
      ]
  judgement_one_or apart (Ok r) (Err m) h k = absurd (told_no_fault r m h.1 k)
  judgement_one_or apart (Err l) (Ok t) h k = absurd (told_no_fault t l k.1 h)
  judgement_one_or apart (Err l) (Err m) h k =
      inl (ap (err_of {V = Reply} {E = List ℕ}) (one_line order role file.names file.controllable c l m h k))

-- two results for the same texts of an automaton and a circuit are equal, or each of them shows a stimulus on which the
-- circuit loses
pub verify_one_or : (automata : (text : List ℕ) → IsOne (ReadsAutomaton text)) (circuits : (text : List ℕ) →
    IsOne (ReadsCircuitText text)) (apart : NotBoth) (order : Order) (role : Role) (x y : Result Reply (List ℕ))
    (texts : List ℕ) → AnswersVerify order role texts x → AnswersVerify order role texts y →
    (x ≡ y) ⊎ ((file : FileData) × (c : CircuitData) × ReadsVerified texts file c ×
    AgreeAsLosing (IsLosing order role file c) (printed x) (printed y))
verify_one_or automata circuits apart order role x y texts h k =
    judged_one_or ReadsAutomaton (TellsJudgement order role)
    (λ file c. AgreeAsLosing (IsLosing order role file c) (printed x) (printed y)) automata circuits x y
    (λ file c. judgement_one_or order role file c apart x y) texts h k
