-- Adding formulas to a table.
use Rattle.std.specs.Prelude.{◌≡◌, ℕ, ◌<◌, ◌≤◌, List, length, map, reverse}
use Rattle.std.specs.List.{AllByRecursion}
use Rattle.ps_formula.specs.Formulas.{Formula, formula_at}
use Rattle.ps_formula.specs.declared.node.Node.{Node}

-- the formulas of a table stay when it grows
pub record Keeps (old new : List Node) : Type 0 where
  pub longer : length old ≤ length new
  pub same : (k : ℕ) → k < length old → formula_at new k ≡ formula_at old k

pub record IsBuilt (old : List Node) (tree : Formula) (new : List Node) (id : ℕ) : Type 0 where
  pub keeps : Keeps old new
  pub within : id < length new
  pub is : formula_at new id ≡ tree

-- the ids are those of formulas of the table
abbrev pub AreIn : List Node → List ℕ → Type 0
AreIn nodes ids = AllByRecursion (λ id. id < length nodes) ids

-- the formulas with the ids, the last first
abbrev pub stack_of : List Node → List ℕ → List Formula
stack_of nodes ids = reverse (map (λ id. formula_at nodes id) ids)

-- the table grows, and `ids` are the ids of the formulas on the stack
pub record IsPushed (old : List Node) (stack : List Formula) (new : List Node) (ids : List ℕ) : Type 0 where
  pub keeps : Keeps old new
  pub valid : AreIn new ids
  pub stack_is : stack_of new ids ≡ stack
