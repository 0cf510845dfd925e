-- Labels and the diagrams of their truth values: the leaf 1 where a label is true, and no leaf where it is false.
--
-- - `HaveTruths t nodes known`: each node is the diagram of one of the given truth values
-- - `AreNodesOf t aliases nodes`: the nodes are the diagrams of the truth values of the aliases
use Rattle.std.specs.Prelude.{◌≡◌, ℕ, ◌<◌, Bool, true, false, List, length, Option, Some, None}
use Rattle.std.specs.Prelude.{slice_index, slice_index_or}
use Rattle.ps_label.specs.Expression.{Expression}
use Rattle.ps_label.specs.Truth.{alias_truths}
use Rattle.ps_diagram.specs.Table.{Table, IsNode, leaf_of}

-- the leaf by which a diagram shows a truth value: 1 for true, None for false
abbrev pub one_where : Bool → Option ℕ
one_where true = Some 1
one_where false = None

-- the leaf by which a diagram shows a truth value: the given leaf for true, None for false
abbrev pub leaf_where : ℕ → Bool → Option ℕ
leaf_where value true = Some value
leaf_where value false = None

abbrev pub IsOneOrNone : Option ℕ → Type 0
IsOneOrNone leaf = (b : Bool) × (leaf ≡ one_where b)

-- the nodes are in the table, and at each letter, each node has the leaf 1 if its truth value in `known` is true, and
-- else none
pub record HaveTruths (t : Table) (nodes : List ℕ) (known : ℕ → List Bool) : Type 0 where
  pub held : (k : ℕ) → k < length nodes → IsNode t (slice_index nodes k)
  pub leaf : (k letter : ℕ) → k < length nodes → leaf_of t (slice_index nodes k) letter ≡ one_where
      (slice_index_or (known letter) k false)

pub record AreNodesOf (t : Table) (aliases : List Expression) (nodes : List ℕ) : Type 0 where
  pub one_each : length nodes ≡ length aliases
  pub truths : HaveTruths t nodes (alias_truths aliases)
