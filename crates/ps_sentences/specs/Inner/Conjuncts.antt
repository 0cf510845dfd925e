-- A formula as a conjunction of others in a table that grows.
-- - `HasSplit nodes f split`: f is `true`, the conjunction of two formulas of the table, or whole
-- - `AreConjunctsOf f old new parts`: f is equivalent to the conjunction of the parts
use Rattle.std.specs.Prelude.{◌↔◌, ◌<◌, ◌≤◌, ℕ, List}
use Rattle.ps_formula.specs.Formulas.{Formula, and_of, formula_at}
use Rattle.ps_formula.specs.Satisfaction.{IsDecidedWord, Satisfies}
use Rattle.ps_formula.specs.declared.node.Node.{Node}
use Rattle.ps_sentences.specs.Inner.Layers.{within}
use Rattle.ps_sentences.specs.Inner.Shapes.{HasShape}
use Rattle.ps_sentences.specs.Sentences.{AllHold, IsConjunction}
use Rattle.ps_sentences.specs.Tables.{AreIn, IsGrownTable, listed_formulas}
use Rattle.ps_sentences.specs.declared.layers.Layer.{Layer}
use Rattle.ps_sentences.specs.declared.shapes.Shape.{Shape}
use Rattle.ps_sentences.specs.declared.shapes.Shape.TheVariants as shapes
use Rattle.ps_sentences.specs.declared.splitting.Split.{Split}
use Rattle.ps_sentences.specs.declared.splitting.Split.TheVariants.{True, Both, Whole}

abbrev pub HasSplit : List Node → Formula → Split → Type 0
HasSplit nodes f True = HasShape nodes f shapes.True
HasSplit nodes f (Both g h) = HasShape nodes f (shapes.Both g h)
HasSplit nodes f Whole = Unit {0}

pub record IsSplitOf (f : Formula) (old new : List Node) (split : Split) : Type 0 where
  pub grows : IsGrownTable old new
  pub has : HasSplit new f split

-- two formulas whose conjunction is that of the given ones, within the layers
pub record SplitsWithin (layers : List Layer) (first second : ℕ) (old new : List Node) (split : Split) : Type 0 where
  pub is : IsSplitOf (within old layers (and_of (formula_at old first) (formula_at old second))) old new split

pub record AreConjunctsOf (f : Formula) (old new : List Node) (parts : List ℕ) : Type 0 where
  pub grows : IsGrownTable old new
  pub there : AreIn new parts
  pub is : IsConjunction f (listed_formulas new parts)

-- steps are taken, at least one if the formula was split
abbrev pub TakesSteps : ℕ → ℕ → Split → Type 0
TakesSteps old new (Both g h) = new < old
TakesSteps old new split = new ≤ old

-- steps are taken, at least one if the shape is known
abbrev pub TakesStep : ℕ → ℕ → Shape → Type 0
TakesStep old new shapes.Whole = new ≤ old
TakesStep old new shape = new < old

-- a formula is the conjunction of some formulas of a table, and of others that are still to be taken apart
pub record IsTaken (f : Formula) (nodes : List Node) (parts pending : List ℕ) : Type 0 where
  pub parts_there : AreIn nodes parts
  pub pending_there : AreIn nodes pending
  pub same : (w : ℕ → ℕ) (i : ℕ) → IsDecidedWord w →
      (Satisfies f w i) ↔ (AllHold w i (listed_formulas nodes parts) × AllHold w i (listed_formulas nodes pending))

-- the table grows, and the conjunction stays the same
pub record TakesApart (nodes : List Node) (parts pending : List ℕ) (new_nodes : List Node)
    (new_parts new_pending : List ℕ) : Type 0 where
  pub grows : IsGrownTable nodes new_nodes
  pub keeps : (f : Formula) → IsTaken f nodes parts pending → IsTaken f new_nodes new_parts new_pending
