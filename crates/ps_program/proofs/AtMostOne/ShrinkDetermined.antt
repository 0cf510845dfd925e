-- The answer of `shrink` is determined, except for the smaller circuit, or the stimulus on which the circuit loses.
use Rattle.std.proofs.Common.{◌≡◌, ◌⊎◌, ℕ, List, Result, Ok, Err, ap, inl, inr}
use Rattle.ps_circuit.specs.Circuits.{CircuitData}
use Rattle.ps_hoa.specs.Files.{FileData}
use Rattle.ps_machine.specs.declared.key.Order.{Order}
use Rattle.ps_simulate.specs.Stimuli.{StimulusData}
use Rattle.ps_simulate.specs.declared.role.Role.{Role}
use Rattle.ps_verify.specs.Judgements.{IsLosing, IsWinning}
use Rattle.ps_program.specs.Automata.{ReadsAutomaton}
use Rattle.ps_program.specs.Laws.Determined.{AgreeOnCircuit}
use Rattle.ps_program.specs.Outcomes.{printed}
use Rattle.ps_program.specs.Replies.{Reply}
use Rattle.ps_program.specs.Commands.Shrinking.{AnswersShrink, IsReducedTo, TellsReduction}
use Rattle.ps_program.specs.Texts.{ReadsCircuitText}
use Rattle.ps_program.specs.Commands.Verifying.{IsProductLine, ReadsVerified}
use Rattle.ps_program.proofs.AtMostOne.JudgedTexts.{judged_one_or, no_fault, one_line}
use Rattle.ps_program.proofs.AtMostOne.OneStep.{IsOne, err_of}
use Rattle.ps_program.proofs.AtMostOne.VerifyDetermined.{NotBoth}

-- if no circuit both wins and loses, two replies print a smaller circuit, or both print a stimulus on which the circuit
-- loses
pub reduced_alike : (Winning : CircuitData → Type 0) (Losing : CircuitData → StimulusData → Type 0) (c : CircuitData) →
    ((s : StimulusData) → Winning c → Losing c s → ⊥) → (r t : Reply) → IsReducedTo Winning Losing c r →
    IsReducedTo Winning Losing c t → AgreeOnCircuit Winning Losing c r t
reduced_alike Winning Losing c apart r t (inl (wins, small)) (inl (wins', small')) =
    inl (record { wins = wins; one = small; other = small' })
reduced_alike Winning Losing c apart r t (inl (wins, small)) (inr (s, loses, e')) = absurd (apart s wins loses)
reduced_alike Winning Losing c apart r t (inr (s, loses, e)) (inl (wins, small)) = absurd (apart s wins loses)
reduced_alike Winning Losing c apart r t (inr (s, loses, e)) (inr (s', loses', e')) =
    inr (record { one = s; other = s'; one_loses = loses; other_loses = loses'; is_one = e; is_other = e' })

module _ (order : Order) (role : Role) (file : FileData) (c : CircuitData) where
  abbrev AgreeByAutomaton : Reply → Reply → Type 0
  AgreeByAutomaton a b = AgreeOnCircuit (IsWinning order role file) (IsLosing order role file) c a b

  told_no_fault : (reply : Reply) (line : List ℕ) → TellsReduction order role file c (Ok reply) →
      IsProductLine order role file c line → ⊥
  told_no_fault reply line (is_circuit, inl (wins, small)) fault =
      no_fault order role file.names file.controllable c wins.symbols wins.in_time line fault
  told_no_fault reply line (is_circuit, inr (s, loses, e)) fault =
      no_fault order role file.names file.controllable c loses.symbols loses.in_time line fault

  told_one_or : NotBoth → (x y : Result Reply (List ℕ)) → TellsReduction order role file c x →
      TellsReduction order role file c y → (x ≡ y) ⊎ AgreeByAutomaton (printed x) (printed y)
  told_one_or apart (Ok r) (Ok t) h k = inr (reduced_alike (IsWinning order role file) (IsLosing order role file) c
      (apart order role file c) r t h.1 k.1)
  told_one_or apart (Ok r) (Err m) h k = absurd (told_no_fault r m h k)
  told_one_or apart (Err l) (Ok t) h k = absurd (told_no_fault t l k h)
  told_one_or apart (Err l) (Err m) h k =
      inl (ap (err_of {V = Reply} {E = List ℕ}) (one_line order role file.names file.controllable c l m h k))

-- two results for the same texts of an automaton and a circuit are equal, or both print a smaller circuit, or both
-- print a stimulus on which the circuit loses
pub shrink_one_or : (automata : (text : List ℕ) → IsOne (ReadsAutomaton text)) (circuits : (text : List ℕ) →
    IsOne (ReadsCircuitText text)) (apart : NotBoth) (order : Order) (role : Role) (x y : Result Reply (List ℕ))
    (texts : List ℕ) → AnswersShrink order role texts x → AnswersShrink order role texts y →
    (x ≡ y) ⊎ ((file : FileData) × (c : CircuitData) × ReadsVerified texts file c ×
    AgreeByAutomaton order role file c (printed x) (printed y))
shrink_one_or automata circuits apart order role x y texts h k =
    judged_one_or ReadsAutomaton (TellsReduction order role)
    (λ file c. AgreeByAutomaton order role file c (printed x) (printed y)) automata circuits x y
    (λ file c. told_one_or order role file c apart x y) texts h k
