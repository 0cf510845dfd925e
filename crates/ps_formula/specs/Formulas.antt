-- Formulas of linear temporal logic as trees, and tables of nodes, each of which is a formula made from earlier ones.
use Rattle.std.specs.Prelude.{◌≡◌, ℕ, ◌<◌, ◌⊎◌, Bool, false, List, [], ◌∷◌, ◌++◌, Some, Contains}
use Rattle.std.specs.Prelude.{slice_get, slice_index_or}
use Rattle.ps_formula.specs.declared.node.Node.{Node}
use Rattle.ps_formula.specs.declared.node.Node.TheVariants.{Constant, Proposition, Not, And, Or, Implies, Iff, Next}
use Rattle.ps_formula.specs.declared.node.Node.TheVariants.{Until, Release, WeakUntil, Finally, Globally}

-- a formula; a proposition is given by its number
pub data Formula : Type 0 where
  constant : Bool → Formula
  proposition : ℕ → Formula
  not_of : Formula → Formula
  and_of : Formula → Formula → Formula
  or_of : Formula → Formula → Formula
  implies : Formula → Formula → Formula
  iff : Formula → Formula → Formula
  next : Formula → Formula
  until : Formula → Formula → Formula
  release : Formula → Formula → Formula
  weak_until : Formula → Formula → Formula
  finally : Formula → Formula
  globally : Formula → Formula

-- ## From nodes to formulas

-- the list `known` of the trees of earlier nodes, extended by the trees of the given nodes, one after another; a node's
-- tree is made from the trees of the nodes before it
abbrev pub trees_behind : {N T : Type 0} → (make : List T → N → T) → List T → List N → List T
trees_behind make known [] = known
trees_behind make known (node ∷ nodes) = trees_behind make (known ++ make known node ∷ []) nodes

-- the formula with an index in a list
abbrev pub nth : List Formula → ℕ → Formula
nth known k = slice_index_or known k (constant false)

-- the formula of a node, given the formulas of the nodes before it
abbrev pub formula_of : List Formula → Node → Formula
formula_of known (Constant b) = constant b
formula_of known (Proposition p) = proposition p
formula_of known (Not f) = not_of (nth known f)
formula_of known (And f g) = and_of (nth known f) (nth known g)
formula_of known (Or f g) = or_of (nth known f) (nth known g)
formula_of known (Implies f g) = implies (nth known f) (nth known g)
formula_of known (Iff f g) = iff (nth known f) (nth known g)
formula_of known (Next f) = next (nth known f)
formula_of known (Until f g) = until (nth known f) (nth known g)
formula_of known (Release f g) = release (nth known f) (nth known g)
formula_of known (WeakUntil f g) = weak_until (nth known f) (nth known g)
formula_of known (Finally f) = finally (nth known f)
formula_of known (Globally f) = globally (nth known f)

-- the formulas of a table, one for each node
unfoldable pub formulas_of : List Node → List Formula
formulas_of nodes = trees_behind formula_of [] nodes

-- the formula of the node with an index
abbrev pub formula_at : List Node → ℕ → Formula
formula_at nodes k = nth (formulas_of nodes) k

-- ## Tables

-- the operands of a node have indices less than `count`, and a proposition is less than 64
abbrev pub IsOver : (count : ℕ) → Node → Type 0
IsOver count (Constant b) = Unit {0}
IsOver count (Proposition p) = p < 64
IsOver count (Not f) = f < count
IsOver count (And f g) = (f < count) × (g < count)
IsOver count (Or f g) = (f < count) × (g < count)
IsOver count (Implies f g) = (f < count) × (g < count)
IsOver count (Iff f g) = (f < count) × (g < count)
IsOver count (Next f) = f < count
IsOver count (Until f g) = (f < count) × (g < count)
IsOver count (Release f g) = (f < count) × (g < count)
IsOver count (WeakUntil f g) = (f < count) × (g < count)
IsOver count (Finally f) = f < count
IsOver count (Globally f) = f < count

-- each node is over the nodes before it, and no node occurs twice
pub record IsTableOver {N : Type 0} (IsOver : ℕ → N → Type 0) (nodes : List N) : Type 0 where
  pub earlier : (k : ℕ) (node : N) → slice_get nodes k ≡ Some node → IsOver k node
  pub once : (j k : ℕ) (node : N) → slice_get nodes j ≡ Some node → slice_get nodes k ≡ Some node → j ≡ k

-- the operands of each node are earlier nodes, propositions are less than 64, and no node occurs twice
abbrev pub IsTable : List Node → Type 0
IsTable nodes = IsTableOver IsOver nodes

-- the table `new` has the node at the index: it is the table `old`, which had the node, or `old` with the node at its
-- end, which lacked it
pub record IsAdded {N : Type 0} (old : List N) (node : N) (new : List N) (index : ℕ) : Type 0 where
  pub there : slice_get new index ≡ Some node
  pub rest : ((new ≡ old) × Contains old node) ⊎ ((new ≡ old ++ node ∷ []) × ¬ Contains old node)
