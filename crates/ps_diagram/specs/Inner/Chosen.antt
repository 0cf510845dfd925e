-- How the tree of a node that `choose` or `both` makes is related to the trees of the given nodes. (For private
-- functions.)
use Rattle.std.specs.Prelude.{◌≡◌, ℕ, ◌+◌, ◌<◌, Bool, List, Option, Some}
use Rattle.ps_diagram.specs.declared.choose.Cut.{Cut}
use Rattle.ps_diagram.specs.Leaves.{chosen}
use Rattle.ps_diagram.specs.Pairs.{IsPaired}
use Rattle.ps_diagram.specs.Split.{IsSides}
use Rattle.ps_diagram.specs.Tree.{Tree, leaf_at}
use Rattle.ps_diagram.specs.Table.{Table, IsNode, tree_of}

-- at a letter at which the first tree has a leaf, the fourth tree has the leaf of the second tree; at any other letter,
-- the fourth tree has the leaf of the third tree
abbrev pub IsChosen : Tree → Tree → Tree → Tree → Type 0
IsChosen a b c d = (f : ℕ → Bool) → leaf_at d f ≡ chosen (leaf_at a f) (leaf_at b f) (leaf_at c f)

-- each entry of the memo table of `choose` is right: its three nodes and their result are in the table, and `IsChosen`
-- relates the four trees
abbrev pub KnowsTriples : Table → (ℕ × ℕ × ℕ → Option ℕ) → Type 0
KnowsTriples t known =
    (truth one other made : ℕ) → known (truth, one, other) ≡ Some made →
    IsNode t truth × IsNode t one × IsNode t other × IsNode t made ×
    IsChosen (tree_of t truth) (tree_of t one) (tree_of t other) (tree_of t made)

-- three nodes are split at the same proposition; as numbers, their low sides have a smaller sum than the nodes, and
-- their high sides have a smaller sum than the nodes, too
pub record IsCut (t : Table) (truth one other : ℕ) (c : Cut) : Type 0 where
  pub named : c.proposition < t.propositions
  pub truth_sides : IsSides t truth c.proposition c.truth.low c.truth.high
  pub one_sides : IsSides t one c.proposition c.one.low c.one.high
  pub other_sides : IsSides t other c.proposition c.other.low c.other.high
  pub low_falls : c.truth.low + c.one.low + c.other.low < truth + one + other
  pub high_falls : c.truth.high + c.one.high + c.other.high < truth + one + other

-- at each letter, the third tree has as leaf the index, in `pairs`, of the pair of the first two trees' leaves
abbrev pub IsPairOf : List (ℕ × ℕ) → Tree → Tree → Tree → Type 0
IsPairOf pairs a b c = (f : ℕ → Bool) → IsPaired pairs (leaf_at a f) (leaf_at b f) (leaf_at c f)

-- at some letter, the two trees have the two leaves of the pair
abbrev pub Meet : Tree → Tree → ℕ × ℕ → Type 0
Meet a b pair = (f : ℕ → Bool) × (leaf_at a f ≡ Some pair.0) × (leaf_at b f ≡ Some pair.1)
