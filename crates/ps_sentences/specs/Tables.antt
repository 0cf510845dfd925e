-- Tables of formulas that grow.
-- - `IsGrownTable old new`: the table `new` has the formulas of the table `old` at their indices, and perhaps others
-- - `AreIn nodes indices`: the indices are those of formulas of the table
-- - `listed_formulas nodes indices`: the formulas with these indices
use Rattle.std.specs.Prelude.{◌≡◌, ◌<◌, ℕ, ◌++◌, List, length, map}
use Rattle.std.specs.List.{AllByRecursion}
use Rattle.ps_formula.specs.Formulas.{Formula, formula_at}
use Rattle.ps_formula.specs.declared.node.Node.{Node}

pub record IsGrownTable (old new : List Node) : Type 0 where
  pub more : List Node
  pub is : new ≡ old ++ more

abbrev pub AreIn : List Node → List ℕ → Type 0
AreIn nodes indices = AllByRecursion (λ k. k < length nodes) indices

abbrev pub listed_formulas : List Node → List ℕ → List Formula
listed_formulas nodes indices = map (formula_at nodes) indices
