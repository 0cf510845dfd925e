-- Commands that read two texts, of which the second is judged by the first: for a circuit, the answer is determined,
-- except for the stimulus on which the circuit loses.
-- - `no_fault`, `one_line`: no fault is reported for a circuit of its role that is in time; there is only one fault
-- - `told_one_or`: two judgements on one circuit are equal, or each shows a stimulus on which the circuit loses
-- - `both_one_or`: two results for the same texts are equal, or alike, if this holds for the values of the texts
-- - `judged_one_or`: the same where the second text is a circuit
use Rattle.std.proofs.Common.{◌≡◌, ◌⊎◌, ◌∙◌, ℕ, List, Result, Ok, sym, inl, inr}
use Rattle.ps_circuit.specs.Circuits.{CircuitData}
use Rattle.ps_machine.specs.declared.key.Order.{Order}
use Rattle.ps_product.specs.ProductFaults.{IsTooEarly}
use Rattle.ps_simulate.specs.Stimuli.{StimulusData}
use Rattle.ps_simulate.specs.Symbols.{HasSymbols}
use Rattle.ps_simulate.specs.declared.role.Role.{Role}
use Rattle.ps_traces.specs.Shapes.{IsInTimeWhereReached}
use Rattle.ps_program.specs.Laws.Determined.{AgreeAsLosing}
use Rattle.ps_program.specs.Outcomes.{Then}
use Rattle.ps_program.specs.Replies.{Reply}
use Rattle.ps_program.specs.Texts.{CutsInTwo, ReadsCircuitText}
use Rattle.ps_program.specs.Commands.Verifying.{IsUnjudgedLine, IsToldOf}
use Rattle.ps_program.proofs.AtMostOne.OneCut.{cut_one}
use Rattle.ps_program.proofs.AtMostOne.OneStep.{IsOne, then_one_or}

module _ (order : Order) (role : Role) (names : List (List ℕ)) (controllable : List ℕ) (c : CircuitData) where
  early : IsInTimeWhereReached order role c → IsTooEarly order role c → ⊥
  early in_time too_early = too_early.sees (in_time too_early.first)

  -- no fault is reported for a circuit with the symbols of its role, if it moves second, or if in no step of a trace
  -- its outputs depend on the inputs of that step
  pub no_fault : HasSymbols role names controllable c → IsInTimeWhereReached order role c → (line : List ℕ) →
      IsUnjudgedLine order role names controllable c line → ⊥
  no_fault symbols in_time line (inl (none, e)) = none symbols
  no_fault symbols in_time line (inr (has, too_early, e)) = early in_time too_early

  pub one_line : (line other : List ℕ) → IsUnjudgedLine order role names controllable c line →
      IsUnjudgedLine order role names controllable c other → line ≡ other
  one_line line other (inl (none, e)) (inl (none', e')) = e ∙ sym e'
  one_line line other (inl (none, e)) (inr (has, too_early, e')) = absurd (none has)
  one_line line other (inr (has, too_early, e)) (inl (none', e')) = absurd (none' has)
  one_line line other (inr (has, too_early, e)) (inr (has', too_early', e')) = e ∙ sym e'

-- if no circuit both wins and loses, two replies are equal, or each shows a stimulus on which the circuit loses
pub told_one_or : (Wins : Type 0) (Loses : StimulusData → Type 0) → ((s : StimulusData) → Wins → Loses s → ⊥) →
    (r t : Reply) → IsToldOf Wins Loses r → IsToldOf Wins Loses t → (r ≡ t) ⊎ AgreeAsLosing Loses r t
told_one_or Wins Loses apart r t (inl (wins, e)) (inl (wins', e')) = inl (e ∙ sym e')
told_one_or Wins Loses apart r t (inl (wins, e)) (inr (s, loses, e')) = absurd (apart s wins loses)
told_one_or Wins Loses apart r t (inr (s, loses, e)) (inl (wins, e')) = absurd (apart s wins loses)
told_one_or Wins Loses apart r t (inr (s, loses, e)) (inr (s', loses', e')) =
    inr (record { one = s; other = s'; one_loses = loses; other_loses = loses'; is_one = e; is_other = e' })

-- the values of the two texts of the input
abbrev pub ReadsTwo : {V W : Type 0} → (List ℕ → Result V (List ℕ) → Type 0) → (List ℕ → Result W (List ℕ) → Type 0) →
    List ℕ → V → W → Type 0
ReadsTwo reads seconds texts v w = (parts : List ℕ × List ℕ) × CutsInTwo texts (Ok parts) × reads parts.0 (Ok v)
    × seconds parts.1 (Ok w)

-- two results for the same texts are equal, or alike, if this holds for all values of the two texts
module _ {V W : Type 0} (reads : List ℕ → Result V (List ℕ) → Type 0) (seconds : List ℕ → Result W (List ℕ) → Type 0)
    (tells : V → W → Result Reply (List ℕ) → Type 0) (alike : V → W → Type 0)
    (first_one : (text : List ℕ) → IsOne (reads text)) (second_one : (text : List ℕ) → IsOne (seconds text))
    (x y : Result Reply (List ℕ)) (each : (v : V) (w : W) → tells v w x → tells v w y → (x ≡ y) ⊎ alike v w)
  where
    abbrev AlikeOf : V → List ℕ → Type 0
    AlikeOf v text = (w : W) × seconds text (Ok w) × alike v w

    abbrev AlikeIn : List ℕ × List ℕ → Type 0
    AlikeIn parts = (v : V) × reads parts.0 (Ok v) × AlikeOf v parts.1

    abbrev Answers : List ℕ → Result Reply (List ℕ) → Type 0
    Answers texts = Then (CutsInTwo texts) (λ parts. Then (reads parts.0) (λ v. Then (seconds parts.1) (tells v)))

    pub both_one_or : (texts : List ℕ) → Answers texts x → Answers texts y →
        (x ≡ y) ⊎ ((v : V) × (w : W) × ReadsTwo reads seconds texts v w × alike v w)
    both_one_or texts h k =
        by (then_one_or (CutsInTwo texts) (λ (parts : List ℕ × List ℕ). Then (reads parts.0)
        (λ v. Then (seconds parts.1) (tells v))) AlikeIn (cut_one texts) x y
        (λ parts n m. then_one_or (reads parts.0) (λ v. Then (seconds parts.1) (tells v))
        (λ v. AlikeOf v parts.1) (first_one parts.0) x y
        (λ v n' m'. then_one_or (seconds parts.1) (tells v) (alike v) (second_one parts.1) x y (each v) n' m')
        n m) h k)
      where
        by : (x ≡ y) ⊎ ((parts : List ℕ × List ℕ) × CutsInTwo texts (Ok parts) × AlikeIn parts) →
            (x ≡ y) ⊎ ((v : V) × (w : W) × ReadsTwo reads seconds texts v w × alike v w)
        by (inl same) = inl same
        by (inr (parts, cuts, (v, first, (w, second, like)))) = inr (v, w, (parts, cuts, first, second), like)

pub judged_one_or : {V : Type 0} (reads : List ℕ → Result V (List ℕ) → Type 0)
    (tells : V → CircuitData → Result Reply (List ℕ) → Type 0) (alike : V → CircuitData → Type 0)
    (first_one : (text : List ℕ) → IsOne (reads text)) (circuits : (text : List ℕ) → IsOne (ReadsCircuitText text))
    (x y : Result Reply (List ℕ)) (each : (v : V) (c : CircuitData) → tells v c x → tells v c y → (x ≡ y) ⊎ alike v c)
    (texts : List ℕ) →
    Then (CutsInTwo texts) (λ parts. Then (reads parts.0) (λ v. Then (ReadsCircuitText parts.1) (tells v))) x →
    Then (CutsInTwo texts) (λ parts. Then (reads parts.0) (λ v. Then (ReadsCircuitText parts.1) (tells v))) y →
    (x ≡ y) ⊎ ((v : V) × (c : CircuitData) × ReadsTwo reads ReadsCircuitText texts v c × alike v c)
judged_one_or reads tells alike first_one circuits x y each texts h k =
    both_one_or reads ReadsCircuitText tells alike first_one circuits x y each texts h k
