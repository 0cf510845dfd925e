-- Formulas that are added to a table: conjunctions, and sentences as implications.
-- - `IsConjunctionIn nodes formulas new index`: the table has grown, and the formula with this index is the conjunction
-- - `AreGoalsOf nodes lists new sentences goals`: each goal is equivalent to the sentence at its place
-- - `AreImplications nodes lists sentences new goals`: the same, and the table has grown
use Rattle.std.specs.Prelude.{◌<◌, ◌↔◌, ◌∷◌, [], ℕ, List, length}
use Rattle.ps_formula.specs.Formulas.{formula_at}
use Rattle.ps_formula.specs.Satisfaction.{Satisfies}
use Rattle.ps_formula.specs.declared.node.Node.{Node}
use Rattle.ps_sentences.specs.Partings.{sentence_in}
use Rattle.ps_sentences.specs.Sentences.{AllHold, IsObeyed}
use Rattle.ps_sentences.specs.Tables.{IsGrownTable, listed_formulas}
use Rattle.ps_sentences.specs.declared.parting.Sentence.{Sentence}

pub record IsConjunctionIn (nodes : List Node) (formulas : List ℕ) (new : List Node) (index : ℕ) : Type 0 where
  pub grows : IsGrownTable nodes new
  pub there : index < length new
  pub same : (w : ℕ → ℕ) (i : ℕ) →
      (Satisfies (formula_at new index) w i) ↔ (AllHold w i (listed_formulas nodes formulas))

-- the goal is equivalent to the sentence
pub record IsGoalOf (nodes : List Node) (lists : List (List ℕ)) (new : List Node) (s : Sentence) (goal : ℕ) : Type 0
  where
    pub there : goal < length new
    pub same : (w : ℕ → ℕ) (i : ℕ) → (Satisfies (formula_at new goal) w i) ↔ (IsObeyed w i (sentence_in nodes lists s))

abbrev pub AreGoalsOf : List Node → List (List ℕ) → List Node → List Sentence → List ℕ → Type 0
AreGoalsOf nodes lists new [] [] = Unit {0}
AreGoalsOf nodes lists new [] (goal ∷ goals) = ⊥
AreGoalsOf nodes lists new (s ∷ ss) [] = ⊥
AreGoalsOf nodes lists new (s ∷ ss) (goal ∷ goals) =
    IsGoalOf nodes lists new s goal × AreGoalsOf nodes lists new ss goals

pub record AreImplications (nodes : List Node) (lists : List (List ℕ)) (sentences : List Sentence) (new : List Node)
    (goals : List ℕ) : Type 0 where
  pub grows : IsGrownTable nodes new
  pub each : AreGoalsOf nodes lists new sentences goals
