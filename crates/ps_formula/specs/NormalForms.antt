-- Formulas in negation normal form, as trees and as nodes of a table.
use Rattle.std.specs.Prelude.{◌↔◌, ℕ, ◌<◌, Bool, true, false, List, [], length, slice_index_or}
use Rattle.ps_formula.specs.declared.normal_node.NormalNode.{NormalNode}
use Rattle.ps_formula.specs.declared.normal_node.NormalNode.TheVariants.{Constant, Proposition, Negated, And, Or, Next}
use Rattle.ps_formula.specs.declared.normal_node.NormalNode.TheVariants.{Until, Release}
use Rattle.ps_formula.specs.Formulas.{Formula, constant, proposition, not_of, and_of, or_of, next, until, release}
use Rattle.ps_formula.specs.Formulas.{IsTableOver, trees_behind}
use Rattle.ps_formula.specs.Satisfaction.{Satisfies, IsDecidedWord}

-- a formula whose only negations are those of propositions; a literal is a proposition or its negation
pub data NormalFormula : Type 0 where
  truth : Bool → NormalFormula
  literal : (negated : Bool) → ℕ → NormalFormula
  both : NormalFormula → NormalFormula → NormalFormula
  either : NormalFormula → NormalFormula → NormalFormula
  after : NormalFormula → NormalFormula
  reaches : NormalFormula → NormalFormula → NormalFormula
  keeps : NormalFormula → NormalFormula → NormalFormula

-- what it means: `after` is `X`, `reaches` is `U`, `keeps` is `R`
abbrev pub plain : NormalFormula → Formula
plain (truth b) = constant b
plain (literal true p) = not_of (proposition p)
plain (literal false p) = proposition p
plain (both f g) = and_of (plain f) (plain g)
plain (either f g) = or_of (plain f) (plain g)
plain (after f) = next (plain f)
plain (reaches f g) = until (plain f) (plain g)
plain (keeps f g) = release (plain f) (plain g)

-- ## From nodes to formulas

abbrev pub nth_normal : List NormalFormula → ℕ → NormalFormula
nth_normal known k = slice_index_or known k (truth false)

-- the formula of a node, given the formulas of the nodes before it
abbrev pub normal_formula_of : List NormalFormula → NormalNode → NormalFormula
normal_formula_of known (Constant b) = truth b
normal_formula_of known (Proposition p) = literal false p
normal_formula_of known (Negated p) = literal true p
normal_formula_of known (And f g) = both (nth_normal known f) (nth_normal known g)
normal_formula_of known (Or f g) = either (nth_normal known f) (nth_normal known g)
normal_formula_of known (Next f) = after (nth_normal known f)
normal_formula_of known (Until f g) = reaches (nth_normal known f) (nth_normal known g)
normal_formula_of known (Release f g) = keeps (nth_normal known f) (nth_normal known g)

-- the formulas of a table, one for each node
unfoldable pub normal_formulas_of : List NormalNode → List NormalFormula
normal_formulas_of nodes = trees_behind normal_formula_of [] nodes

-- the formula of the node with an index
abbrev pub normal_formula_at : List NormalNode → ℕ → NormalFormula
normal_formula_at nodes k = nth_normal (normal_formulas_of nodes) k

-- ## Tables

-- the operands of a node have indices less than `count`, and a proposition is less than 64
abbrev pub IsNormalOver : (count : ℕ) → NormalNode → Type 0
IsNormalOver count (Constant b) = Unit {0}
IsNormalOver count (Proposition p) = p < 64
IsNormalOver count (Negated p) = p < 64
IsNormalOver count (And f g) = (f < count) × (g < count)
IsNormalOver count (Or f g) = (f < count) × (g < count)
IsNormalOver count (Next f) = f < count
IsNormalOver count (Until f g) = (f < count) × (g < count)
IsNormalOver count (Release f g) = (f < count) × (g < count)

abbrev pub IsNormalTable : List NormalNode → Type 0
IsNormalTable nodes = IsTableOver IsNormalOver nodes

-- ## Normal forms

-- the formula of a node is true where the given formula is, along each word along which formulas are true or false
pub record IsNormalForm (nodes : List NormalNode) (index : ℕ) (f : Formula) : Type 0 where
  pub within : index < length nodes
  pub same : (w : ℕ → ℕ) (i : ℕ) → IsDecidedWord w →
      (Satisfies (plain (normal_formula_at nodes index)) w i) ↔ (Satisfies f w i)
