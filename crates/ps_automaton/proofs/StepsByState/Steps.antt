-- Steps are appended to a list, each step only once.
use Rattle.std.proofs.Common.{◌≡◌, ℕ, ◌≤◌, inl, inr, List, [], ◌∷◌, ◌++◌, length, Some, arith}
use Rattle.std.specs.List.{slice_get}
use Rattle.std.proofs.lemmas.Option.{slice_get_within}
use Rattle.ps_text.proofs.Combinators.Simple.{same_some}
use Rattle.ps_automaton.specs.Chains.{Chain}
use Rattle.ps_automaton.specs.Inner.Drafts.{AreSteps, Extends, step_of_target}
use Rattle.ps_automaton.specs.declared.targets.Target.{Target}
use Rattle.ps_automaton.specs.declared.step.Step.{Step}
use Rattle.ps_automaton.specs.Inner.Places.{IsPlaced}
use Rattle.ps_automaton.proofs.StepsByState.DistinctEntries.{at_last}
use Rattle.ps_automaton.proofs.StepsByState.PlaceTables.{placed_is, placed_keeps}

pub extends_both : (a b c : List Step) → Extends a b → Extends b c → Extends a c
extends_both a b c f g = λ place step e. g place step (f place step e)

pub extends_same : (a : List Step) → Extends a a
extends_same a = λ place step e. e

-- one more step
module _ {steps new : List Step} (step : Step) {place : ℕ} (placed : IsPlaced steps new step place) where
  pub step_extends : Extends steps new
  step_extends = placed_keeps placed

  pub step_within : {states : ℕ} → step.state ≤ states → AreSteps states steps → AreSteps states new
  step_within {states} low a = record {
    sink = step_extends 0 (record { state = states; priority = 1 }) a.sink;
    within = λ place s e. elim (placed_is placed place s e) [
      | inl old ↦ a.within place s old
      | inr is ↦ rw is low
    ];
  }

abbrev pub AreNamed : Chain → List Target → List Step → List ℕ → Type 0
AreNamed chain targets steps places = (k place : ℕ) (target : Target) → slice_get targets k ≡ Some target →
    slice_get places k ≡ Some place → slice_get steps place ≡ Some (step_of_target chain target)

pub named_more : (chain : Chain) (targets : List Target) (steps new : List Step) (places : List ℕ) {more : List ℕ}
    {index : ℕ} (p : ℕ) {x : Target} {step : Step} → Extends steps new → slice_get new p ≡ Some step →
    step ≡ step_of_target chain x → slice_get targets index ≡ Some x → length places ≡ index → more ≡ places ++ p ∷ [] →
    AreNamed chain targets steps places → AreNamed chain targets new more
named_more chain targets steps new places p {x} extends stored is at size pushed each k place target at_k at_place =
    elim (at_last places p k (rw pushed at at_place)) [
      | inl e ↦ extends place (step_of_target chain target) (each k place target at_k e)
      | inr e ↦ grind (arith, same_some)
    ]

-- a target behind those that were named changes nothing
pub named_wider : (chain : Chain) (targets : List Target) (last : Target) (steps : List Step) (places : List ℕ) →
    length places ≡ length targets → AreNamed chain targets steps places →
    AreNamed chain (targets ++ last ∷ []) steps places
named_wider chain targets last steps places same each k place target at_k at_place = elim (at_last targets last k at_k) [
  | inl e ↦ each k place target e at_place
  | inr e ↦ absurd (omega (arith, e.1, same, slice_get_within places k place at_place))
]
