-- The nodes that a memo table already has, and how each new diagram is related to the diagrams from which it is made.
use Rattle.std.specs.Prelude.{◌≡◌, ◌≢◌, ℕ, ◌≤◌, Bool, ◌&&◌, nat_eq, Option, Some}
use Rattle.ps_diagram.specs.declared.fault.OverlayError.{OverlayError}
use Rattle.ps_diagram.specs.declared.fault.OverlayError.TheVariants.{Clash, OutOfMemory}
use Rattle.ps_diagram.specs.Leaves.{either_leaf, AreCompatible}
use Rattle.ps_diagram.specs.Tree.{Tree, leaf_at}
use Rattle.ps_diagram.specs.Table.{Table, IsNode, tree_of}

-- each entry of a memo table is right: its node is in the table s, the node made from it is in t, and R relates their
-- trees
abbrev pub Knows : (Tree → Tree → Type 0) → Table → Table → (ℕ → Option ℕ) → Type 0
Knows R s t known =
    (node made : ℕ) → known node ≡ Some made → IsNode s node × IsNode t made × R (tree_of s node) (tree_of t made)

-- each entry of a memo table of pairs is right: its two nodes and the node made from them are in the table, and R
-- relates their trees
abbrev pub KnowsPairs : (Tree → Tree → Tree → Type 0) → Table → (ℕ × ℕ → Option ℕ) → Type 0
KnowsPairs R t known =
    (first second made : ℕ) → known (first, second) ≡ Some made →
    IsNode t first × IsNode t second × IsNode t made × R (tree_of t first) (tree_of t second) (tree_of t made)

abbrev pub pair_eq : ℕ × ℕ → ℕ × ℕ → Bool
pair_eq a b = nat_eq a.0 b.0 && nat_eq a.1 b.1

-- at each letter, the leaf of the second tree is the rule's result for the leaf of the first tree
abbrev pub IsMapped : (Option ℕ → Option ℕ) → Tree → Tree → Type 0
IsMapped rule t u = (f : ℕ → Bool) → leaf_at u f ≡ rule (leaf_at t f)

-- the node is in the table s, its leaf at each letter (None for no leaf) has the property `Fits`, and s has at most as
-- many propositions as the table t
pub record IsChangeable (Fits : Option ℕ → Type 0) (s t : Table) (node : ℕ) : Type 0 where
  pub held : IsNode s node
  pub few : s.propositions ≤ t.propositions
  pub fits : (f : ℕ → Bool) → Fits (leaf_at (tree_of s node) f)

-- the first two trees never have different leaves at one letter, and the third tree has the leaves of both
abbrev pub IsOverlay : Tree → Tree → Tree → Type 0
IsOverlay a b c =
    (f : ℕ → Bool) → AreCompatible (leaf_at a f) (leaf_at b f) × (leaf_at c f ≡ either_leaf (leaf_at a f) (leaf_at b f))

-- the error `Clash` of `overlay` reports two different leaves that the two trees have at one letter
abbrev pub IsClash : Tree → Tree → OverlayError → Type 0
IsClash a b (Clash x y) = (f : ℕ → Bool) × (leaf_at a f ≡ Some x) × (leaf_at b f ≡ Some y) × (x ≢ y)
IsClash a b OutOfMemory = Unit {0}
