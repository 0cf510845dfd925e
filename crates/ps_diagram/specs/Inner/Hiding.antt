-- How the tree of a node that `projected` makes is related to the tree of the given node. (For private functions.)
use Rattle.std.specs.Prelude.{◌≡◌, ℕ, Bool, cond, Option, Some, None}
use Rattle.ps_label.specs.Truth.{is_in}
use Rattle.ps_diagram.specs.Leaves.{either_leaf}
use Rattle.ps_diagram.specs.Tree.{Tree, empty, final, choice, leaf_at}

-- the leaf that a test of p has by the leaves of its sides: if p is hidden, that of the low side if there is one
abbrev pub joined_leaf : ℕ → ℕ → Bool → Option ℕ → Option ℕ → Option ℕ
joined_leaf mask p here low high = cond (is_in p mask) (either_leaf low high) (cond here high low)

-- the leaf 1, if f, changed on the mask, leads to a leaf of the tree
abbrev pub hidden_leaf : ℕ → Tree → (ℕ → Bool) → Option ℕ
hidden_leaf mask empty f = None
hidden_leaf mask (final k) f = Some 1
hidden_leaf mask (choice p low high) f = joined_leaf mask p (f p) (hidden_leaf mask low f) (hidden_leaf mask high f)

abbrev pub IsHidden : ℕ → Tree → Tree → Type 0
IsHidden mask a d = (f : ℕ → Bool) → leaf_at d f ≡ hidden_leaf mask a f

abbrev pub IsHiddenTest : ℕ → ℕ → Tree → Tree → Tree → Type 0
IsHiddenTest mask p a b d = (f : ℕ → Bool) → leaf_at d f ≡ joined_leaf mask p (f p) (leaf_at a f) (leaf_at b f)
