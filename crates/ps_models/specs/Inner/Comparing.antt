-- What one half of the comparison of an automaton with a formula tells.
use Rattle.std.specs.Prelude.{◌≡◌, ℕ, ◌<◌, Bool, None, Option, Some, List, [], false, length, map, slice_index, true}
use Rattle.std.specs.Prelude.{slice_index_or}
use Rattle.ps_hoa.specs.Files.{FileData, is_among}
use Rattle.ps_automaton.specs.Chains.{is_even}
use Rattle.ps_fairness.specs.Marks.{IsFairCycle, Leads}
use Rattle.ps_fairness.specs.declared.edge.Edge.{Edge}
use Rattle.ps_simulate.specs.Symbols.{IsPropositionOf}
use Rattle.ps_tableau_product.specs.JointGraphs.{JointData, capped_graph, joint_graph, letter_along, marks_at}
use Rattle.ps_tableau_product.specs.declared.joint_plan.JointPlan.{JointPlan}
use Rattle.ps_models.specs.Agreements.{AcceptsByName, IsAcceptedWrongly, IsLassoOver, IsRejectedWrongly}
use Rattle.ps_models.specs.Judgements.{IsSatisfied, NamedFormula}
use Rattle.ps_models.specs.Sentences.{named_formula}
use Rattle.ps_models.specs.declared.agreement.Lasso.{Lasso}
use Rattle.ps_models.specs.declared.sentence.Sentence.{Sentence}

-- the numbers that the automaton's first propositions have in the formula, where they have the same names and players
pub record ArePlacesUpTo (own : List (List ℕ)) (own_controllable : List ℕ) (f : NamedFormula) (places : List ℕ)
    (count : ℕ) : Type 0 where
  pub one_each : length places ≡ count
  pub each : (k : ℕ) → k < count → IsPropositionOf f.names f.controllable (is_among k own_controllable)
      (slice_index_or own k []) (Some (slice_index places k))

abbrev pub ArePlaces : List (List ℕ) → List ℕ → NamedFormula → List ℕ → Type 0
ArePlaces own own_controllable f places = ArePlacesUpTo own own_controllable f places (length own)

-- the automaton's propositions have their numbers in the sentence
pub record IsComparison (plan : JointPlan) (sentence : Sentence) : Type 0 where
  pub count : plan.count ≡ length sentence.names.now
  pub places : ArePlaces plan.automaton.now.names plan.automaton.now.controllable (named_formula sentence)
      plan.places.now

-- the letters along a fair cycle of edges whose priorities are at most d, and along a walk to it from the first vertex
pub record IsLassoAt (g : JointData) (d : ℕ) (lasso : Lasso) : Type 0 where
  pub stem : List Edge
  pub lap : List Edge
  pub cycle : IsFairCycle (capped_graph g d) (marks_at g d) lap
  pub leads : Leads (joint_graph g) stem 0 cycle.start
  pub stem_is : lasso.stem.items ≡ map (letter_along g) stem
  pub lap_is : lasso.lap.items ≡ map (letter_along g) lap

abbrev pub HasNoCycle : JointData → ℕ → Type 0
HasNoCycle g d = (walk : List Edge) → ¬ IsFairCycle (capped_graph g d) (marks_at g d) walk

-- the lasso is one for the priority d, which is even, or odd, as wanted; or there is none
abbrev pub IsLassoIf : JointData → (even : Bool) → ℕ → Option Lasso → Type 0
IsLassoIf g even d (Some lasso) = (is_even d ≡ even) × IsLassoAt g d lasso
IsLassoIf g even d None = is_even d ≡ even → HasNoCycle g d

-- a lasso whose greatest repeated priority is even, or odd; or none
abbrev pub IsLassoTold : JointData → (even : Bool) → Option Lasso → Type 0
IsLassoTold g even (Some lasso) = (d : ℕ) × (is_even d ≡ even) × IsLassoAt g d lasso
IsLassoTold g even None = (d : ℕ) → is_even d ≡ even → HasNoCycle g d

-- a lasso that is accepted although it violates the formula, or rejected although it satisfies the formula; or none
abbrev pub IsHalfTold : FileData → NamedFormula → (accepts : Bool) → Option Lasso → Type 0
IsHalfTold file f true (Some lasso) = IsAcceptedWrongly file f lasso.stem.items lasso.lap.items
IsHalfTold file f true None = (stem lap : List ℕ) → IsLassoOver f.names stem lap →
    AcceptsByName file f.names stem lap → IsSatisfied f stem lap
IsHalfTold file f false (Some lasso) = IsRejectedWrongly file f lasso.stem.items lasso.lap.items
IsHalfTold file f false None = (stem lap : List ℕ) → IsLassoOver f.names stem lap → IsSatisfied f stem lap →
    AcceptsByName file f.names stem lap
