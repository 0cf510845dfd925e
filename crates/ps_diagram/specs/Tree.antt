-- A decision diagram as a tree, and the leaf to which a letter leads.
use Rattle.std.specs.Prelude.{◌≡◌, ℕ, ◌+◌, ◌<◌, ◌≤◌, Bool, cond, Option, Some, None}

pub data Tree : Type 0 where
  empty : Tree
  final : ℕ → Tree
  choice : ℕ → Tree → Tree → Tree

-- The leaf to which a letter leads, if any. A choice leads to its low side if its proposition is false, and otherwise
-- to its high side.
abbrev pub leaf_at : Tree → (ℕ → Bool) → Option ℕ
leaf_at empty f = None
leaf_at (final k) f = Some k
leaf_at (choice p low high) f = cond (f p) (leaf_at high f) (leaf_at low f)

-- along each path, the propositions ascend; they are at least `level` and less than n
abbrev pub IsFrom : ℕ → ℕ → Tree → Type 0
IsFrom level n empty = Unit {0}
IsFrom level n (final k) = Unit {0}
IsFrom level n (choice p low high) = (level ≤ p) × (p < n) × IsFrom (p + 1) n low × IsFrom (p + 1) n high

-- the tree is reduced: the two sides of each choice differ
abbrev pub IsReduced : Tree → Type 0
IsReduced empty = Unit {0}
IsReduced (final k) = Unit {0}
IsReduced (choice p low high) = (low ≡ high → ⊥) × IsReduced low × IsReduced high

-- the tree's leaves depend only on propositions from `level` on
abbrev pub IsBlind : ℕ → Tree → Type 0
IsBlind level t = (f g : ℕ → Bool) → ((q : ℕ) → level ≤ q → f q ≡ g q) → leaf_at t f ≡ leaf_at t g

abbrev pub HaveSameLeaves : Tree → Tree → Type 0
HaveSameLeaves t u = (f : ℕ → Bool) → leaf_at t f ≡ leaf_at u f

-- the tree has the leaves of `low` if p is false, and the leaves of `high` if p is true
abbrev pub IsTestOf : ℕ → Tree → Tree → Tree → Type 0
IsTestOf p low high t = (f : ℕ → Bool) → leaf_at t f ≡ cond (f p) (leaf_at high f) (leaf_at low f)
