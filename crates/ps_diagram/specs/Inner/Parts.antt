-- Nodes described by their cells.
use Rattle.std.specs.Prelude.{◌≡◌, ℕ, ◌+◌, ◌<◌, ◌≤◌}
use Rattle.ps_diagram.specs.declared.view.View.{View}
use Rattle.ps_diagram.specs.declared.view.View.TheVariants.{Nothing, Leaf, Test}
use Rattle.ps_diagram.specs.Tree.{empty, final, choice, IsFrom}
use Rattle.ps_diagram.specs.Table.{Table, IsNode, tree_of}

-- The node of the store tests the proposition p. The node's sides are two earlier nodes with different trees, which
-- test only propositions after p.
pub record IsChoice (t : Table) (node p low high : ℕ) : Type 0 where
  pub few : t.propositions ≤ 64
  pub below : p < t.propositions
  pub low_earlier : low < node
  pub high_earlier : high < node
  pub low_held : IsNode t low
  pub high_held : IsNode t high
  pub low_from : IsFrom (p + 1) t.propositions (tree_of t low)
  pub high_from : IsFrom (p + 1) t.propositions (tree_of t high)
  pub differ : tree_of t low ≡ tree_of t high → ⊥
  pub tree : tree_of t node ≡ choice p (tree_of t low) (tree_of t high)

-- the cell describes the node: no leaf, a leaf, or a test with two child nodes
abbrev pub IsPart : Table → ℕ → View → Type 0
IsPart t node Nothing = tree_of t node ≡ empty
IsPart t node (Leaf k) = tree_of t node ≡ final k
IsPart t node (Test p low high) = IsChoice t node p low high
