-- The formulas that one formula of a table needs.
use Rattle.std.specs.Prelude.{◌≡◌, ℕ, ◌<◌, Bool, Contains, IsTrue, List, Some, false, length, slice_get, slice_index_or}
use Rattle.ps_formula.specs.declared.normal_node.NormalNode.{NormalNode}
use Rattle.ps_formula.specs.declared.normal_node.NormalNode.TheVariants.{Constant, Proposition, Negated, And, Or, Next}
use Rattle.ps_formula.specs.declared.normal_node.NormalNode.TheVariants.{Until, Release}

-- the formula with an index is needed
abbrev pub IsNeeded : List Bool → ℕ → Type 0
IsNeeded needed k = IsTrue (slice_index_or needed k false)

-- the operands of a node are needed
abbrev pub NeedsOperands : List Bool → NormalNode → Type 0
NeedsOperands needed (Constant t) = Unit {0}
NeedsOperands needed (Proposition p) = Unit {0}
NeedsOperands needed (Negated p) = Unit {0}
NeedsOperands needed (And f g) = IsNeeded needed f × IsNeeded needed g
NeedsOperands needed (Or f g) = IsNeeded needed f × IsNeeded needed g
NeedsOperands needed (Next f) = IsNeeded needed f
NeedsOperands needed (Until f g) = IsNeeded needed f × IsNeeded needed g
NeedsOperands needed (Release f g) = IsNeeded needed f × IsNeeded needed g

-- the operands of each formula that is needed are needed
pub record NeedsAll (nodes : List NormalNode) (needed : List Bool) : Type 0 where
  pub few : length needed ≡ length nodes
  pub operands : (k : ℕ) (node : NormalNode) → slice_get nodes k ≡ Some node → IsNeeded needed k →
      NeedsOperands needed node

-- the list has each until that is needed, and indices of the table alone
pub record AreUntils (nodes : List NormalNode) (needed : List Bool) (untils : List ℕ) : Type 0 where
  pub each : (k f g : ℕ) → slice_get nodes k ≡ Some (Until f g) → IsNeeded needed k → Contains untils k
  pub within : (k : ℕ) → Contains untils k → k < length nodes
