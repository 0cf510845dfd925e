-- The command `lasso --tlsf` has at most one result, by laws of other crates.
-- - `satisfaction_one`: the statement on the word of a circuit's run
-- - `specification_one`: the specification of a text
-- - `lasso_tlsf_one`: the whole command
use Rattle.std.proofs.Common.{arith, ◌≡◌, ◌∙◌, ℕ, Bool, true, List, length, Result, Ok, Err, sym, ap, inl, inr}
use Rattle.std.proofs.Common.{subst}
use Rattle.ps_text.specs.Answers.{Found}
use Rattle.ps_circuit.specs.CauseNames as circuit_names
use Rattle.ps_circuit.specs.Causes as circuit
use Rattle.ps_circuit.specs.Circuits.{CircuitData, IsCircuit}
use Rattle.ps_circuit.specs.Texts as circuit_text
use Rattle.ps_formula.specs.Formulas.{Formula}
use Rattle.ps_simulate.specs.Faults as stimulus
use Rattle.ps_simulate.specs.Lassos.{HasOneWord}
use Rattle.ps_simulate.specs.Stimuli.{StimulusData}
use Rattle.ps_simulate.specs.StimulusTexts as stimulus_text
use Rattle.ps_simulate.specs.Symbols.{HasSymbols}
use Rattle.ps_simulate.specs.Words.{TraceWordData}
use Rattle.ps_simulate.specs.declared.role.Role.{Role}
use Rattle.ps_tlsf.specs.Causes as tlsf
use Rattle.ps_tlsf.specs.Names.{names_in, outputs_in}
use Rattle.ps_tlsf.specs.Reading.{answer_of}
use Rattle.ps_tlsf.specs.Specifications.{Specification}
use Rattle.ps_tlsf.specs.declared.fault.TlsfCause.{TlsfCause}
use Rattle.ps_program.specs.Replies.{Reply}
use Rattle.ps_program.specs.Commands.Satisfying.{AnswersLassoTlsf, IsToldBy, TellsSatisfaction}
use Rattle.ps_program.specs.Texts.{ReadsSpecificationText}
use Rattle.ps_program.proofs.AtMostOne.OneCut.{cut_three_one}
use Rattle.ps_program.proofs.AtMostOne.OneStage.{OneCircuit, OneStimulus, no_empty_lap}
use Rattle.ps_program.proofs.AtMostOne.OneStep.{IsOne, ok_of, reading_one, then_one}

abbrev pub OneWord : Type 0
OneWord =
    (role : Role) (names : List (List ℕ)) (controllable : List ℕ) (c : CircuitData) (stem lap : List (List Bool)) →
    IsCircuit c → HasSymbols role names controllable c → HasOneWord names c stem lap

told_one : (f : Formula) (word : TraceWordData) → IsOne (IsToldBy f word)
told_one f word r t (inl holds) (inl holds') = holds.1 ∙ sym holds'.1
told_one f word r t (inl holds) (inr fails) = absurd (fails.0 holds.0)
told_one f word r t (inr fails) (inl holds) = absurd (fails.0 holds.0)
told_one f word r t (inr fails) (inr fails') = fails.1 ∙ sym fails'.1

satisfaction_one : OneWord → (role : Role) (spec : Specification) (c : CircuitData) (s : StimulusData) →
    IsOne (TellsSatisfaction role spec c s)
satisfaction_one words role spec c s (Ok r) (Ok t) h k =
    let same =
    words role (names_in spec.names) (outputs_in spec.names) c s.stem s.lap h.0 h.2 h.3.0 k.3.0 h.3.1 k.3.1 in
    ap (ok_of {V = Reply} {E = List ℕ}) (told_one spec.whole k.3.0 r t
    (subst (λ (word : TraceWordData). IsToldBy spec.whole word r) same h.3.2) k.3.2)
satisfaction_one words role spec c s (Ok r) (Err m) h (inl empty) = absurd (no_empty_lap s.lap empty.0 h.1)
satisfaction_one words role spec c s (Ok r) (Err m) h (inr other) = absurd (other.1 h.2)
satisfaction_one words role spec c s (Err l) (Ok t) (inl empty) k = absurd (no_empty_lap s.lap empty.0 k.1)
satisfaction_one words role spec c s (Err l) (Ok t) (inr other) k = absurd (other.1 k.2)
satisfaction_one words role spec c s (Err l) (Err m) (inl empty) (inl empty') = grind arith
satisfaction_one words role spec c s (Err l) (Err m) (inl empty) (inr other') =
    absurd (no_empty_lap s.lap empty.0 other'.0)
satisfaction_one words role spec c s (Err l) (Err m) (inr other) (inl empty') =
    absurd (no_empty_lap s.lap empty'.0 other.0)
satisfaction_one words role spec c s (Err l) (Err m) (inr other) (inr other') = grind arith

answer_one : (text : List ℕ) → IsOne {V = Result Specification (Found TlsfCause)} (λ answer. answer ≡ answer_of text)
answer_one text a b h k = h ∙ sym k

pub specification_one : (text : List ℕ) → IsOne (ReadsSpecificationText text)
specification_one text =
    reading_one tlsf.cause_number tlsf.cause_name (λ answer. answer ≡ answer_of text) (answer_one text)

pub lasso_tlsf_one : OneCircuit → OneStimulus → OneWord → (role : Role) (texts : List ℕ) →
    IsOne (AnswersLassoTlsf role texts)
lasso_tlsf_one circuits stimuli words role texts =
    then_one _ _ (cut_three_one texts) (λ parts. then_one _ _ (specification_one parts.0)
    (λ spec. then_one _ _ (reading_one circuit.cause_number circuit_names.cause_name
    (circuit_text.ReadsCircuit parts.1) (circuits parts.1))
    (λ c. then_one _ _ (reading_one stimulus.cause_number stimulus.cause_name
    (stimulus_text.ReadsStimulus parts.2 (length c.inputs) true) (stimuli parts.2 (length c.inputs) true))
    (satisfaction_one words role spec c))))
