-- Nodes that are split at a proposition.
use Rattle.std.specs.Prelude.{◌≡◌, ℕ, ◌+◌, ◌<◌, ◌≤◌, Bool, Option}
use Rattle.ps_diagram.specs.declared.split.Split.{Split}
use Rattle.ps_diagram.specs.Tree.{Tree, empty, final, choice, leaf_at, IsBlind, IsTestOf}
use Rattle.ps_diagram.specs.Table.{Table, IsNode, tree_of}

-- the proposition that a tree tests first, or n if the tree tests no proposition
abbrev pub root_of : ℕ → Tree → ℕ
root_of n empty = n
root_of n (final k) = n
root_of n (choice p low high) = p

-- the tree has the same leaf at every letter, or no leaf at any letter
abbrev pub IsConstant : Tree → Type 0
IsConstant t = (x : Option ℕ) × ((f : ℕ → Bool) → leaf_at t f ≡ x)

-- The node tests the proposition p, with the sides `low` and `high`. The leaves of both sides depend only on
-- propositions after p.
pub record IsSides (t : Table) (node p low high : ℕ) : Type 0 where
  pub low_held : IsNode t low
  pub high_held : IsNode t high
  pub low_before : low ≤ node
  pub high_before : high ≤ node
  pub low_later : IsBlind (p + 1) (tree_of t low)
  pub high_later : IsBlind (p + 1) (tree_of t high)
  pub leaf : IsTestOf p (tree_of t low) (tree_of t high) (tree_of t node)

-- two nodes that test no proposition
pub record AreConstants (t : Table) (first second : ℕ) : Type 0 where
  pub first_held : IsNode t first
  pub second_held : IsNode t second
  pub first_constant : IsConstant (tree_of t first)
  pub second_constant : IsConstant (tree_of t second)

-- two nodes are split at the same proposition; as numbers, their low sides have a smaller sum than the nodes, and so
-- have their high sides
pub record IsSplit (t : Table) (first second : ℕ) (s : Split) : Type 0 where
  pub named : s.proposition < t.propositions
  pub first_sides : IsSides t first s.proposition s.left.low s.left.high
  pub second_sides : IsSides t second s.proposition s.right.low s.right.high
  pub low_falls : s.left.low + s.right.low < first + second
  pub high_falls : s.left.high + s.right.high < first + second
