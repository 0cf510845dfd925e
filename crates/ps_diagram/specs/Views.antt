-- What a caller sees of a node: no leaf, one leaf, or a test with two nodes.
use Rattle.std.specs.Prelude.{◌≡◌, ℕ, ◌^◌, ◌<◌, cond, Some, None}
use Rattle.ps_label.specs.Truth.{is_in}
use Rattle.ps_diagram.specs.declared.view.View.{View}
use Rattle.ps_diagram.specs.declared.view.View.TheVariants.{Nothing, Leaf, Test}
use Rattle.ps_diagram.specs.Table.{Table, IsNode, leaf_of}

-- the leaf of the node depends only on propositions after p
abbrev pub HeedsBehind : Table → ℕ → ℕ → Type 0
HeedsBehind t node p = (x y : ℕ) → ((q : ℕ) → p < q → is_in q x ≡ is_in q y) → leaf_of t node x ≡ leaf_of t node y

-- The node's leaf depends on p, and on no proposition before p. The node's leaf is the leaf of `low` if p is false, and
-- the leaf of `high` if p is true. Both `low` and `high` are earlier nodes of the store, whose leaves depend only on
-- propositions after p. The leaves of `low` and `high` differ at some letter.
pub record SeesTest (t : Table) (node p low high : ℕ) : Type 0 where
  pub named : p < t.propositions
  pub low_held : IsNode t low
  pub high_held : IsNode t high
  pub low_earlier : low < node
  pub high_earlier : high < node
  pub low_behind : HeedsBehind t low p
  pub high_behind : HeedsBehind t high p
  pub leaf : (letter : ℕ) → leaf_of t node letter ≡ cond (is_in p letter) (leaf_of t high letter) (leaf_of t low letter)
  pub depends : ((letter : ℕ) → letter < 2 ^ t.propositions → leaf_of t low letter ≡ leaf_of t high letter) → ⊥

abbrev pub Sees : Table → ℕ → View → Type 0
Sees t node Nothing = (letter : ℕ) → leaf_of t node letter ≡ None
Sees t node (Leaf k) = (letter : ℕ) → leaf_of t node letter ≡ Some k
Sees t node (Test p low high) = SeesTest t node p low high
