-- The answer of `shrink --tlsf` is determined, except for the smaller circuit, or the stimulus on which the circuit
-- loses.
use Rattle.std.proofs.Common.{◌≡◌, ◌⊎◌, ℕ, List, Result, Ok, Err, ap, inl, inr}
use Rattle.ps_circuit.specs.Circuits.{CircuitData}
use Rattle.ps_simulate.specs.declared.role.Role.{Role}
use Rattle.ps_specification.specs.Requirements.{order_in, requirement_of}
use Rattle.ps_tlsf.specs.Names.{names_in, outputs_in}
use Rattle.ps_tlsf.specs.Specifications.{Specification}
use Rattle.ps_program.specs.Laws.Determined.{AgreeOnCircuit}
use Rattle.ps_program.specs.Outcomes.{printed}
use Rattle.ps_program.specs.Replies.{Reply}
use Rattle.ps_program.specs.Commands.Shrinking.{IsReducedTo}
use Rattle.ps_program.specs.Commands.ShrinkingTlsf.{AnswersShrinkTlsf, TellsReductionFor}
use Rattle.ps_program.specs.Texts.{ReadsCircuitText, ReadsSpecificationText}
use Rattle.ps_program.specs.Commands.VerifyingTlsf.{IsUnjudgedFor, LosesSpecified, ReadsSpecified, WinsSpecified}
use Rattle.ps_program.proofs.AtMostOne.JudgedTexts.{judged_one_or, no_fault, one_line}
use Rattle.ps_program.proofs.AtMostOne.OneSatisfaction.{specification_one}
use Rattle.ps_program.proofs.AtMostOne.OneStep.{IsOne, err_of}
use Rattle.ps_program.proofs.AtMostOne.ShrinkDetermined.{reduced_alike}
use Rattle.ps_program.proofs.AtMostOne.VerifyTlsfDetermined.{NotBothFor}

module _ (role : Role) (spec : Specification) (c : CircuitData) where
  abbrev AgreeFor : Reply → Reply → Type 0
  AgreeFor a b = AgreeOnCircuit (WinsSpecified role spec) (LosesSpecified role spec) c a b

  told_no_fault : (reply : Reply) (line : List ℕ) →
      IsReducedTo (WinsSpecified role spec) (LosesSpecified role spec) c reply →
      IsUnjudgedFor role spec c line → ⊥
  told_no_fault reply line (inl (wins, small)) fault =
      no_fault (order_in spec) role (names_in spec.names) (outputs_in spec.names) c wins.symbols wins.in_time line fault
  told_no_fault reply line (inr (s, loses, e)) fault = no_fault (order_in spec) role (names_in spec.names)
      (outputs_in spec.names) c loses.symbols loses.in_time line fault

  told_one_or : NotBothFor → (x y : Result Reply (List ℕ)) → TellsReductionFor role spec c x →
      TellsReductionFor role spec c y → (x ≡ y) ⊎ AgreeFor (printed x) (printed y)
  told_one_or apart (Ok r) (Ok t) h k = inr (reduced_alike (WinsSpecified role spec) (LosesSpecified role spec) c
      (apart (order_in spec) role (requirement_of spec) c) r t h.1 k.1)
  told_one_or apart (Ok r) (Err m) h k = absurd (told_no_fault r m h.1 k)
  told_one_or apart (Err l) (Ok t) h k = absurd (told_no_fault t l k.1 h)
  told_one_or apart (Err l) (Err m) h k = inl (ap (err_of {V = Reply} {E = List ℕ})
      (one_line (order_in spec) role (names_in spec.names) (outputs_in spec.names) c l m h k))

-- two results for the same texts of a specification and a circuit are equal, or both print a smaller circuit, or both
-- print a stimulus on which the circuit loses
pub shrink_tlsf_one_or : (circuits : (text : List ℕ) → IsOne (ReadsCircuitText text)) (apart : NotBothFor)
    (role : Role) (x y : Result Reply (List ℕ)) (texts : List ℕ) → AnswersShrinkTlsf role texts x →
    AnswersShrinkTlsf role texts y → (x ≡ y) ⊎ ((spec : Specification) × (c : CircuitData) ×
    ReadsSpecified texts spec c × AgreeFor role spec c (printed x) (printed y))
shrink_tlsf_one_or circuits apart role x y texts h k =
    judged_one_or ReadsSpecificationText (TellsReductionFor role)
    (λ spec c. AgreeFor role spec c (printed x) (printed y)) specification_one circuits x y
    (λ spec c. told_one_or role spec c apart x y) texts h k
