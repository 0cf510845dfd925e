-- The answer of `verify --tlsf` is determined, except for the stimulus on which the circuit loses.
use Rattle.std.proofs.Common.{◌≡◌, ◌⊎◌, ℕ, List, Result, Ok, Err, ap, inl, inr}
use Rattle.ps_circuit.specs.Circuits.{CircuitData}
use Rattle.ps_machine.specs.declared.key.Order.{Order}
use Rattle.ps_models.specs.Judgements.{IsLosingFor, IsWinningFor, NamedFormula}
use Rattle.ps_simulate.specs.Stimuli.{StimulusData}
use Rattle.ps_simulate.specs.declared.role.Role.{Role}
use Rattle.ps_specification.specs.Requirements.{order_in, requirement_of}
use Rattle.ps_tlsf.specs.Names.{names_in, outputs_in}
use Rattle.ps_tlsf.specs.Specifications.{Specification}
use Rattle.ps_program.specs.Laws.Determined.{AgreeAsLosing}
use Rattle.ps_program.specs.Outcomes.{printed}
use Rattle.ps_program.specs.Replies.{Reply}
use Rattle.ps_program.specs.Texts.{ReadsCircuitText, ReadsSpecificationText}
use Rattle.ps_program.specs.Commands.Verifying.{IsToldOf}
use Rattle.ps_program.specs.Commands.VerifyingTlsf.{AnswersVerifyTlsf, LosesSpecified, ReadsSpecified, TellsSpecified}
use Rattle.ps_program.specs.Commands.VerifyingTlsf.{IsUnjudgedFor, WinsSpecified}
use Rattle.ps_program.proofs.AtMostOne.JudgedTexts.{judged_one_or, no_fault, one_line, told_one_or}
use Rattle.ps_program.proofs.AtMostOne.OneSatisfaction.{specification_one}
use Rattle.ps_program.proofs.AtMostOne.OneStep.{IsOne, err_of, ok_of}

-- a law of another crate, on which this file relies: no circuit both wins and loses
abbrev pub NotBothFor : Type 0
NotBothFor = (order : Order) (role : Role) (f : NamedFormula) (c : CircuitData) (s : StimulusData) →
    IsWinningFor order role f c → ¬ IsLosingFor order role f c s

module _ (role : Role) (spec : Specification) (c : CircuitData) where
  fault_apart : (reply : Reply) (line : List ℕ) →
      IsToldOf (WinsSpecified role spec c) (LosesSpecified role spec c) reply →
      IsUnjudgedFor role spec c line → ⊥
  fault_apart reply line (inl (wins, e)) fault =
      no_fault (order_in spec) role (names_in spec.names) (outputs_in spec.names) c wins.symbols wins.in_time line fault
  fault_apart reply line (inr (s, loses, e)) fault = no_fault (order_in spec) role (names_in spec.names)
      (outputs_in spec.names) c loses.symbols loses.in_time line fault

  abbrev Agree : Result Reply (List ℕ) → Result Reply (List ℕ) → Type 0
  Agree x y = AgreeAsLosing (LosesSpecified role spec c) (printed x) (printed y)

  specified_one_or : NotBothFor → (x y : Result Reply (List ℕ)) → TellsSpecified role spec c x →
      TellsSpecified role spec c y → (x ≡ y) ⊎ Agree x y
  specified_one_or apart (Ok r) (Ok t) h k = elim (told_one_or _ (LosesSpecified role spec c)
      (apart (order_in spec) role (requirement_of spec) c) r t h.1 k.1) [
        | inl same ↦ inl (ap (ok_of {V = Reply} {E = List ℕ}) same)
        | inr agree ↦ inr agree
      ]
  specified_one_or apart (Ok r) (Err m) h k = absurd (fault_apart r m h.1 k)
  specified_one_or apart (Err l) (Ok t) h k = absurd (fault_apart t l k.1 h)
  specified_one_or apart (Err l) (Err m) h k = inl (ap (err_of {V = Reply} {E = List ℕ})
      (one_line (order_in spec) role (names_in spec.names) (outputs_in spec.names) c l m h k))

-- two results for the same texts of a specification and a circuit are equal, or each of them shows a stimulus on which
-- the circuit loses
pub verify_tlsf_one_or : (circuits : (text : List ℕ) → IsOne (ReadsCircuitText text)) (apart : NotBothFor)
    (role : Role) (x y : Result Reply (List ℕ)) (texts : List ℕ) → AnswersVerifyTlsf role texts x →
    AnswersVerifyTlsf role texts y → (x ≡ y) ⊎ ((spec : Specification) × (c : CircuitData) ×
    ReadsSpecified texts spec c × AgreeAsLosing (LosesSpecified role spec c) (printed x) (printed y))
verify_tlsf_one_or circuits apart role x y texts h k =
    judged_one_or ReadsSpecificationText (TellsSpecified role)
    (λ spec c. AgreeAsLosing (LosesSpecified role spec c) (printed x) (printed y)) specification_one circuits x y
    (λ spec c. specified_one_or role spec c apart x y) texts h k
