-- The normal forms of formulas and of their negations, in a table that grows. (For private functions.)
use Rattle.std.specs.Prelude.{◌≡◌, ℕ, ◌<◌, ◌≤◌, List, ◌++◌, Some, length, slice_get}
use Rattle.ps_formula.specs.declared.normal_form.Forms.{Forms}
use Rattle.ps_formula.specs.declared.normal_node.NormalNode.{NormalNode}
use Rattle.ps_formula.specs.Formulas.{Formula, not_of, nth}
use Rattle.ps_formula.specs.NormalForms.{IsNormalForm, normal_formula_at, normal_formula_of, normal_formulas_of}

-- both indices are in the table
pub record AreWithin (nodes : List NormalNode) (forms : Forms) : Type 0 where
  pub formula : forms.formula < length nodes
  pub negation : forms.negation < length nodes

-- the forms of a formula and of its negation
pub record AreForms (nodes : List NormalNode) (f : Formula) (forms : Forms) : Type 0 where
  pub formula : IsNormalForm nodes forms.formula f
  pub negation : IsNormalForm nodes forms.negation (not_of f)

-- the table `new` is the table `old` and at most so many further nodes, and has the forms
pub record IsMade (old new : List NormalNode) (most : ℕ) (forms : Forms) : Type 0 where
  pub more : List NormalNode
  pub is : new ≡ old ++ more
  pub few : length more ≤ most
  pub within : AreWithin new forms

-- the formulas of the forms are those of two nodes over the table `old`
pub record AreTrees (old new : List NormalNode) (formula negation : NormalNode) (forms : Forms) : Type 0 where
  pub first : normal_formula_at new forms.formula ≡ normal_formula_of (normal_formulas_of old) formula
  pub second : normal_formula_at new forms.negation ≡ normal_formula_of (normal_formulas_of old) negation

abbrev pub EachWithin : List NormalNode → List Forms → Type 0
EachWithin nodes known = (k : ℕ) (forms : Forms) → slice_get known k ≡ Some forms → AreWithin nodes forms

-- the forms of each of some formulas
pub record AreKnown (nodes : List NormalNode) (known : List Forms) (trees : List Formula) : Type 0 where
  pub each : (k : ℕ) (forms : Forms) → slice_get known k ≡ Some forms → AreForms nodes (nth trees k) forms
