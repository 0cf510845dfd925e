-- Sets without the formulas that their other formulas bring back.
use Rattle.std.specs.Prelude.{◌≡◌, ◌⊎◌, ℕ, ◌<◌, Contains, List, length}
use Rattle.ps_formula.specs.NormalForms.{NormalFormula, normal_formula_at}
use Rattle.ps_formula.specs.declared.normal_node.NormalNode.{NormalNode}
use Rattle.ps_tableau.specs.Boards.{IsState, formulas_in}
use Rattle.ps_tableau.specs.Sets.{indices_in}
use Rattle.ps_tableau.specs.Covers.{Brings}
use Rattle.ps_tableau.specs.declared.board.Board.{Board}

abbrev pub IsFormulaAt : List NormalNode → ℕ → NormalFormula → Type 0
IsFormulaAt nodes k f = normal_formula_at nodes k ≡ f

-- the formula has one of the indices
abbrev pub IsOneOf : List NormalNode → List ℕ → NormalFormula → Type 0
IsOneOf nodes known f = (k : ℕ) × Contains known k × IsFormulaAt nodes k f

abbrev pub WithinTable : List NormalNode → List ℕ → Type 0
WithinTable nodes indices = (k : ℕ) → Contains indices k → k < length nodes

-- the formula has an index of one of two lists
abbrev pub IsOneOfBoth : List NormalNode → List ℕ → List ℕ → NormalFormula → Type 0
IsOneOfBoth nodes kept rest f = (k : ℕ) × (Contains kept k ⊎ Contains rest k) × IsFormulaAt nodes k f

-- the new list has the indices of the old one, and no other but the given one, whose formula it brings with the rest
pub record KeepsOrBrings (nodes : List NormalNode) (old rest : List ℕ) (index : ℕ) (new : List ℕ) : Type 0 where
  pub fewer : (k : ℕ) → Contains new k → Contains old k ⊎ (index ≡ k)
  pub kept : (k : ℕ) → Contains old k → Contains new k
  pub brings : Brings (IsOneOfBoth nodes new rest) (normal_formula_at nodes index)

-- the formulas of the new set are some of those of the old set, and bring all of them
pub record IsReduced (old : Board) (set : ℕ) (new : Board) (reduced : ℕ) : Type 0 where
  pub state : IsState new reduced
  pub fewer : (k : ℕ) → Contains (indices_in new.sets reduced) k → Contains (indices_in old.sets set) k
  pub brings : (f : NormalFormula) → Contains (formulas_in old set) f → Brings (Contains (formulas_in new reduced)) f
