-- What is needed, formula by formula. (For private functions.)
use Rattle.std.specs.Prelude.{◌≡◌, ◌⊎◌, ℕ, ◌≤◌, Bool, Contains, IsTrue, List, false, length, slice_index_or}
use Rattle.ps_formula.specs.declared.normal_node.NormalNode.{NormalNode}
use Rattle.ps_formula.specs.declared.normal_node.NormalNode.TheVariants.{Until}
use Rattle.ps_tableau.specs.Needs.{IsNeeded}

-- what was needed is needed; from the bound on, nothing else is
pub record KeepsNeeds (bound : ℕ) (old new : List Bool) : Type 0 where
  pub count : length new ≡ length old
  pub kept : (k : ℕ) → IsNeeded old k → IsNeeded new k
  pub same : (k : ℕ) → bound ≤ k → slice_index_or new k false ≡ slice_index_or old k false

-- the index of the node is added, if the node is an until that is needed
pub record AddsUntil (old : List ℕ) (index : ℕ) (node : NormalNode) (is_needed : Bool) (new : List ℕ) : Type 0 where
  pub added : (f g : ℕ) → node ≡ Until f g → IsTrue is_needed → Contains new index
  pub kept : (k : ℕ) → Contains old k → Contains new k
  pub within : (k : ℕ) → Contains new k → Contains old k ⊎ (index ≡ k)
