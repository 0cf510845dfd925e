-- What a formula is a conjunction of, seen at its outermost operator or through some layers.
-- - `HasShape nodes f shape`: the shape is that of the formula f
-- - `IsShapeOf f old new shape`: the same, in a table that has grown
use Rattle.std.specs.Prelude.{◌<◌, true, List, length}
use Rattle.ps_formula.specs.Formulas.{Formula, and_of, constant, formula_at}
use Rattle.ps_formula.specs.declared.node.Node.{Node}
use Rattle.ps_sentences.specs.Inner.Layers.{IsLayer, around}
use Rattle.ps_sentences.specs.Sentences.{IsEquivalent}
use Rattle.ps_sentences.specs.Tables.{IsGrownTable}
use Rattle.ps_sentences.specs.declared.shapes.Shape.{Shape}
use Rattle.ps_sentences.specs.declared.shapes.Shape.TheVariants.{True, Both, Within, Whole}

abbrev pub HasShape : List Node → Formula → Shape → Type 0
HasShape nodes f True = IsEquivalent f (constant true)
HasShape nodes f (Both g h) =
    (g < length nodes) × (h < length nodes) × IsEquivalent f (and_of (formula_at nodes g) (formula_at nodes h))
HasShape nodes f (Within layer g) =
    IsLayer nodes layer × (g < length nodes) × IsEquivalent f (around nodes layer (formula_at nodes g))
HasShape nodes f Whole = Unit {0}

pub record IsShapeOf (f : Formula) (old new : List Node) (shape : Shape) : Type 0 where
  pub grows : IsGrownTable old new
  pub has : HasShape new f shape
