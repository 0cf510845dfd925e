-- The command `lasso --tlsf` has a result, by laws of lower crates.
use Rattle.std.proofs.Common.{◌≡◌, ◌<◌, ℕ, List, true, false, length, Ok, Err, refl, sym, inl, inr}
use Rattle.ps_circuit.specs.Circuits.{CircuitData, IsCircuit}
use Rattle.ps_formula.specs.Formulas.{Formula}
use Rattle.ps_simulate.specs.LassoFaults.{AreWide}
use Rattle.ps_simulate.specs.Stimuli.{StimulusData}
use Rattle.ps_simulate.specs.Symbols.{AreDistinct}
use Rattle.ps_simulate.specs.Words.{TraceWordData}
use Rattle.ps_simulate.specs.declared.lassos.LassoFault.TheVariants.{EmptyLap, Symbols}
use Rattle.ps_simulate.specs.declared.role.Role.{Role}
use Rattle.ps_simulate.proofs.LapsOfRuns.WordLemmas.{some_in_lap}
use Rattle.ps_tlsf.specs.Causes as tlsf
use Rattle.ps_tlsf.specs.Names.{names_in, outputs_in}
use Rattle.ps_tlsf.specs.Reading.{answer_of}
use Rattle.ps_tlsf.specs.Specifications.{Specification}
use Rattle.ps_program.specs.Commands.Lassos.{lasso_line}
use Rattle.ps_program.specs.Replies.{line_reply}
use Rattle.ps_program.specs.Commands.Satisfying.{AnswersLassoTlsf, IsToldBy, TellsSatisfaction, satisfaction_text}
use Rattle.ps_program.specs.Texts.{CutsInThree, ReadsCircuitText, ReadsSpecificationText, ReadsStimulusText}
use Rattle.ps_specification.proofs.DistinctNames.{are_distinct}
use Rattle.ps_program.proofs.AtLeastOne.SomeCut.{three_some}
use Rattle.ps_program.proofs.AtLeastOne.SomeLaws.{Below}
use Rattle.ps_program.proofs.AtLeastOne.SomeRun.{circuit_some, empty_or_some, stimulus_some}
use Rattle.ps_program.proofs.AtLeastOne.SomeStep.{HasSome, reading_some, then_some}

module _ (below : Below) (role : Role) where
  told_some : (f : Formula) (word : TraceWordData) → 0 < length word.lap → HasSome (IsToldBy f word)
  told_some f word some = elim ((below.decided word.stem word.lap some).each f 0) [
    | inl holds ↦ (line_reply (satisfaction_text true word), inl (holds, refl))
    | inr fails ↦ (line_reply (satisfaction_text false word), inr (fails, refl))
  ]

  satisfaction_some : (spec : Specification) → AreDistinct (names_in spec.names) → (c : CircuitData) → IsCircuit c →
      (s : StimulusData) → AreWide c s.stem s.lap → HasSome (TellsSatisfaction role spec c s)
  satisfaction_some spec distinct c is s wide = elim (empty_or_some below role s.lap) [
    | inl empty ↦ (Err (lasso_line EmptyLap), inl (empty, refl))
    | inr letters ↦ elim (below.symbols_or role (names_in spec.names) (outputs_in spec.names) c) [
      | inl has ↦
          let (word, is_word) = below.word role (names_in spec.names) (outputs_in spec.names) c s.stem s.lap distinct is
          has wide letters in
          let (reply, told) = told_some spec.whole word (some_in_lap is_word) in
          (Ok reply, (is, letters, has, (word, is_word, told)))
      | inr other ↦ (Err (lasso_line Symbols), inr (letters, other, refl))
    ]
  ]

  pub lasso_tlsf_some : (texts : List ℕ) → HasSome (AnswersLassoTlsf role texts)
  lasso_tlsf_some texts = then_some (CutsInThree texts) _ (three_some texts) (λ parts cut.
      then_some (ReadsSpecificationText parts.0) _ (reading_some tlsf.cause_number tlsf.cause_name
      (λ answer. answer ≡ answer_of parts.0) (answer_of parts.0, refl)) (λ spec reads.
      then_some (ReadsCircuitText parts.1) _ (circuit_some below parts.1) (λ c read.
      then_some (ReadsStimulusText (length c.inputs) true parts.2) _
      (stimulus_some below (length c.inputs) true parts.2)
      (λ s of. satisfaction_some spec
      (are_distinct (names_in spec.names) (below.names_differ parts.0 spec (sym reads))) c
      (below.circuit_sound parts.1 c read) s
      (record { stem_is = of.stem_widths; lap_is = of.lap_widths })))))
