-- A store of decision diagrams as a table of cells, one for each node, and the tree below each node.
--
-- - `Table`: the number of propositions, and the cells; a node is the index of its cell
-- - `IsNode t node`: the node is in the table
-- - `tree_of t node`: the tree of the node
-- - `leaf_of t node x`: the leaf of the node at the letter x
-- - `Keeps old new`: each old node is in the new table, with the same tree and so with the same leaf at each letter
-- - `MakesDiagram old new result leaf`: a call keeps the old nodes; at each letter, the node that it makes has the leaf
--   `leaf letter`, or no leaf if this is None
-- - `IsSoundTable t`: each test has two earlier nodes as its sides, all trees are ordered and reduced, and different
--   nodes have different trees; this is true of every store
use Rattle.std.specs.Prelude.{◌≡◌, ℕ, ◌<◌, ◌≤◌, IfOk, List, Option, Result, [], ◌∷◌, ◌++◌, fold, length}
use Rattle.std.specs.Prelude.{slice_index_or}
use Rattle.ps_diagram.specs.declared.view.View.{View}
use Rattle.ps_diagram.specs.declared.view.View.TheVariants.{Nothing, Leaf, Test}
use Rattle.ps_diagram.specs.Letters.{assignment}
use Rattle.ps_diagram.specs.Tree.{Tree, empty, final, choice, leaf_at, IsFrom, IsReduced}

pub record Table : Type 0 where
  pub propositions : ℕ
  pub cells : List View

-- the decision tree of a cell, given the trees of earlier cells
abbrev pub tree_by : List Tree → View → Tree
tree_by known Nothing = empty
tree_by known (Leaf k) = final k
tree_by known (Test p low high) = choice p (slice_index_or known low empty) (slice_index_or known high empty)

-- the decision trees of all cells, each made from the trees of the cells before it
unfoldable pub trees_of : List View → List Tree
trees_of cells = fold (λ known cell. known ++ tree_by known cell ∷ []) [] cells

abbrev pub tree_at : List View → ℕ → Tree
tree_at cells place = slice_index_or (trees_of cells) place empty

-- the tree that a cell of the store represents, given the cells before it
abbrev pub tree_in : List View → View → Tree
tree_in cells cell = tree_by (trees_of cells) cell

unfoldable pub tree_of : Table → ℕ → Tree
tree_of t node = tree_at t.cells node

abbrev pub IsNode : Table → ℕ → Type 0
IsNode t node = node < length t.cells

-- the leaf of the node at a letter
abbrev pub leaf_of : Table → ℕ → ℕ → Option ℕ
leaf_of t node letter = leaf_at (tree_of t node) (assignment letter)

pub record Keeps (old new : Table) : Type 0 where
  pub propositions : new.propositions ≡ old.propositions
  pub held : (node : ℕ) → IsNode old node → IsNode new node
  pub same : (node : ℕ) → IsNode old node → tree_of new node ≡ tree_of old node

-- The old nodes are kept, also by a call that fails. The node that the call makes is in the new table and has the
-- property P.
pub record MakesNode {E : Type 0} (old new : Table) (result : Result ℕ E) (P : ℕ → Type 0) : Type 0 where
  pub keeps : Keeps old new
  pub held : IfOk result (λ node. IsNode new node)
  pub leaf : IfOk result P

-- a call makes a node whose leaf at each letter is the value of the function `leaf` for this letter (None for no leaf)
abbrev pub MakesDiagram : {E : Type 0} → Table → Table → Result ℕ E → (ℕ → Option ℕ) → Type 0
MakesDiagram old new result leaf =
    MakesNode old new result (λ node. (letter : ℕ) → leaf_of new node letter ≡ leaf letter)

-- a call makes a node whose tree has the property P
abbrev pub MakesTree : {E : Type 0} → Table → Table → Result ℕ E → (Tree → Type 0) → Type 0
MakesTree old new result P = MakesNode old new result (λ node. P (tree_of new node))

-- the child nodes in the cell, as numbers, are less than `count`
abbrev pub IsCellWithin : ℕ → View → Type 0
IsCellWithin count Nothing = Unit {0}
IsCellWithin count (Leaf k) = Unit {0}
IsCellWithin count (Test p low high) = (low < count) × (high < count)

-- In a sound table, the tree of each cell is made from the trees of earlier cells, and is ordered and reduced. Two
-- nodes with equal trees are the same node.
pub record IsSoundTable (t : Table) : Type 0 where
  pub few : t.propositions ≤ 64
  pub built : (node : ℕ) → IsNode t node → tree_of t node ≡ tree_in t.cells (slice_index_or t.cells node Nothing)
  pub earlier : (node : ℕ) → IsNode t node → IsCellWithin node (slice_index_or t.cells node Nothing)
  pub ordered : (node : ℕ) → IsNode t node → IsFrom 0 t.propositions (tree_of t node)
  pub reduced : (node : ℕ) → IsNode t node → IsReduced (tree_of t node)
  pub one : (a b : ℕ) → IsNode t a → IsNode t b → tree_of t a ≡ tree_of t b → a ≡ b
