-- Rows of nodes, by which the diagram of a list of leaves is made, from the last proposition to the first. (For private
-- functions.)
use Rattle.std.specs.Prelude.{◌≡◌, ℕ, ◌/◌, ◌%◌, ◌^◌, ◌<◌, Bool, List, length, Option, None, slice_get, slice_index}
use Rattle.std.specs.Prelude.{slice_index_or}
use Rattle.ps_diagram.specs.Tree.{leaf_at, IsBlind}
use Rattle.ps_diagram.specs.Table.{Table, IsNode, leaf_of, tree_of}

-- the node is in the table, and at every letter it has the given leaf, or no leaf if None is given
abbrev pub HasLeaf : Table → ℕ → Option ℕ → Type 0
HasLeaf t node leaf = IsNode t node × ((f : ℕ → Bool) → leaf_at (tree_of t node) f ≡ leaf)

-- the list has a constant node for each of the first `count` leaves
pub record AreLeafNodes (t : Table) (leaves : List ℕ) (count : ℕ) (nodes : List ℕ) : Type 0 where
  pub one_each : length nodes ≡ count
  pub each : (i : ℕ) → i < count → HasLeaf t (slice_index nodes i) (slice_get leaves i)

-- the nodes of a row depend only on propositions from `level` on; an index past the end of the row stands for the node
-- `none`, which has no leaf
pub record IsRow (t : Table) (level none : ℕ) (nodes : List ℕ) : Type 0 where
  pub nothing : HasLeaf t none None
  pub held : (i : ℕ) → IsNode t (slice_index_or nodes i none)
  pub later : (i : ℕ) → IsBlind level (tree_of t (slice_index_or nodes i none))

-- the node of a row to which a letter leads: its index is the number whose bits are the truth values of the `depth`
-- propositions from `first` on
abbrev pub entry : ℕ → ℕ → ℕ → List ℕ → ℕ → ℕ
entry first none depth nodes letter = slice_index_or nodes (letter / 2 ^ first % 2 ^ depth) none

-- at each letter, the node to which the letter leads in the new row has the leaf of the node to which it leads in the
-- old row
abbrev pub LeadsOn : Table → Table → ℕ → ℕ → ℕ → List ℕ → ℕ → List ℕ → Type 0
LeadsOn t u first none depth nodes less made =
    (letter : ℕ) → leaf_of u (entry first none less made letter) letter ≡ leaf_of t
    (entry first none depth nodes letter) letter

-- the node depends only on propositions from `first` on; at each letter, it has the leaf of the node to which the letter
-- leads in the row
pub record IsJoined (t u : Table) (first depth none : ℕ) (nodes : List ℕ) (node : ℕ) : Type 0 where
  pub blind : IsBlind first (tree_of u node)
  pub leaf : (letter : ℕ) → leaf_of u node letter ≡ leaf_of t (entry first none depth nodes letter) letter
