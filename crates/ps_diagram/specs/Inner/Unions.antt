-- Diagrams of truth values, in which each leaf is 1, and their disjunctions. (For private functions.)
use Rattle.std.specs.Prelude.{◌≡◌, ℕ, Bool, true, false, cond, List, [], ◌∷◌, Option, None, map}
use Rattle.ps_diagram.specs.Labels.{IsOneOrNone}
use Rattle.ps_diagram.specs.Leaves.{either_leaf}
use Rattle.ps_diagram.specs.Table.{Table, IsNode, leaf_of}
use Rattle.ps_diagram.specs.Tree.{Tree, leaf_at}

-- the first entry of a list that is a leaf; other entries are `None`
abbrev pub first_leaf : List (Option ℕ) → Option ℕ
first_leaf [] = None
first_leaf (leaf ∷ leaves) = either_leaf leaf (first_leaf leaves)

-- the list of the leaves that the nodes of a list have at the letter
abbrev pub leaves_of : Table → List ℕ → ℕ → List (Option ℕ)
leaves_of t nodes letter = map (λ node. leaf_of t node letter) nodes

-- the node is a diagram of truth values: at each letter it has the leaf 1 or no leaf
pub record IsTruth (t : Table) (node : ℕ) : Type 0 where
  pub held : IsNode t node
  pub leaf : (letter : ℕ) → IsOneOrNone (leaf_of t node letter)

-- at each letter, the tree has the leaf 1 or no leaf
abbrev pub IsTruthTree : Tree → Type 0
IsTruthTree t = (f : ℕ → Bool) → IsOneOrNone (leaf_at t f)

-- the third tree has the leaves of the first, and those of the second where the first has none
abbrev pub IsUnion : Tree → Tree → Tree → Type 0
IsUnion a b c = (f : ℕ → Bool) → leaf_at c f ≡ either_leaf (leaf_at a f) (leaf_at b f)

-- whether a truth value is the given one
abbrev pub is_value : (value b : Bool) → Bool
is_value value b = cond value b (cond b false true)
