-- The cofactor (`rest`) of a diagram for a letter: what remains of the diagram if the propositions of a mask are fixed
-- to their values in the letter. A second diagram has, at each letter, the number of the cofactor's node as its leaf.
use Rattle.std.specs.Prelude.{◌≡◌, ℕ, ◌+◌, ◌<◌, Bool, true, ◌&&◌, nat_eq, cond, Option, Some}
use Rattle.ps_label.specs.Truth.{is_in}
use Rattle.ps_diagram.specs.Letters.{assignment}
use Rattle.ps_diagram.specs.Tree.{Tree, leaf_at, IsBlind}
use Rattle.ps_diagram.specs.Table.{Table, IsNode, tree_of}

-- the node is in another table over the same propositions
pub record IsLent (t other : Table) (node : ℕ) : Type 0 where
  pub held : IsNode other node
  pub letters : t.propositions ≡ other.propositions

-- the letter mixed of f and g: it has the values of f on the mask, and the values of g elsewhere
abbrev pub mixed : ℕ → (ℕ → Bool) → (ℕ → Bool) → ℕ → Bool
mixed mask f g p = cond (is_in p mask) (f p) (g p)

-- no leaf of the tree depends on a proposition of the mask
abbrev pub IsUnread : ℕ → Tree → Type 0
IsUnread mask a = (f g : ℕ → Bool) → leaf_at a (mixed mask f g) ≡ leaf_at a g

-- The second tree has a leaf at every letter, which is the number of a node of the table. Let the second tree lead the
-- letter f to a node. At each letter g, this node has the leaf that the first tree has at the letter `mixed` of f and
-- g.
abbrev pub IsDivided : Table → ℕ → Tree → Tree → Type 0
IsDivided t mask a d =
    (f : ℕ → Bool) → (rest : ℕ) × (leaf_at d f ≡ Some rest) × IsNode t rest ×
    ((g : ℕ → Bool) → leaf_at (tree_of t rest) g ≡ leaf_at a (mixed mask f g))

-- The second tree is the cofactor of the first tree for one letter: what remains after the propositions of the mask
-- have been read. At each letter g, the second tree has the leaf of the first tree at the letter that agrees with
-- `letter` on the mask and with g elsewhere.
abbrev pub IsCofactor : ℕ → ℕ → Tree → Tree → Type 0
IsCofactor mask letter a d = (g : ℕ → Bool) → leaf_at d g ≡ leaf_at a (mixed mask (assignment letter) g)

-- The second tree meets the condition of `IsDivided`, but only at letters that agree with `letter` on the propositions
-- of the mask that are less than `level`.
abbrev pub IsSpread : Table → (mask level letter : ℕ) → Tree → Tree → Type 0
IsSpread t mask level letter a d =
    (f : ℕ → Bool) → ((q : ℕ) → q < level → is_in q mask ≡ true → f q ≡ is_in q letter) →
    (rest : ℕ) × (leaf_at d f ≡ Some rest) × IsNode t rest ×
    ((g : ℕ → Bool) → leaf_at (tree_of t rest) g ≡ leaf_at a (mixed mask f g))

-- `leaf` is the number of a node of the table, and the leaves of this node depend only on propositions from `level` on
abbrev pub IsPlace : Table → ℕ → Option ℕ → Type 0
IsPlace t level leaf = (node : ℕ) × (leaf ≡ Some node) × IsNode t node × IsBlind level (tree_of t node)

-- each leaf of the tree is the number of a node whose leaves depend only on propositions from `level` on
abbrev pub LeadsToNodes : Table → ℕ → Tree → Type 0
LeadsToNodes t level d = (f : ℕ → Bool) → IsPlace t level (leaf_at d f)

-- p is a proposition. The nodes `low` and `high` have leaves that are themselves node numbers; the nodes with these
-- numbers depend only on propositions after p
pub record AreLeading (t : Table) (p low high : ℕ) : Type 0 where
  pub named : p < t.propositions
  pub low_held : IsNode t low
  pub high_held : IsNode t high
  pub low_leads : LeadsToNodes t (p + 1) (tree_of t low)
  pub high_leads : LeadsToNodes t (p + 1) (tree_of t high)

-- The leaves x, y and z are numbers of nodes. At letters for which `test` is true, the node of z has the leaf of the
-- node of y; at other letters, it has the leaf of the node of x.
pub record AreTested (t : Table) (test : (ℕ → Bool) → Bool) (x y z : Option ℕ) : Type 0 where
  pub low : ℕ
  pub high : ℕ
  pub made : ℕ
  pub low_is : x ≡ Some low
  pub high_is : y ≡ Some high
  pub made_is : z ≡ Some made
  pub low_held : IsNode t low
  pub high_held : IsNode t high
  pub held : IsNode t made
  pub leaf : (g : ℕ → Bool) → leaf_at (tree_of t made) g ≡ cond (test g) (leaf_at (tree_of t high) g)
      (leaf_at (tree_of t low) g)

-- At each letter, the leaves of the three trees are node numbers. The third node has the leaf of the second at letters
-- in which p is true, and the leaf of the first at other letters.
abbrev pub IsTested : Table → ℕ → Tree → Tree → Tree → Type 0
IsTested t p a b d = (f : ℕ → Bool) → AreTested t (λ g. g p) (leaf_at a f) (leaf_at b f) (leaf_at d f)

-- If p is not in the mask, the trees a, b and d meet the condition `IsTested`. Let p be in the mask, and let a, b and d
-- lead a letter f to the nodes x, y and z. If p is true in f, z has the same leaves as y, and otherwise the same leaves
-- as x.
abbrev pub IsDividedTest : Table → ℕ → ℕ → Tree → Tree → Tree → Type 0
IsDividedTest t mask p a b d =
    (f : ℕ → Bool) → AreTested t (λ g. mixed mask f g p) (leaf_at a f) (leaf_at b f) (leaf_at d f)

-- For each key of the memo table, the two nodes of the key and the node made from them are in the table of nodes. The
-- trees of these three nodes meet the condition `IsTested` for the key's proposition.
abbrev pub KnowsTests : Table → (ℕ × ℕ × ℕ → Option ℕ) → Type 0
KnowsTests t known =
    (p low high made : ℕ) → known (p, low, high) ≡ Some made →
    IsNode t low × IsNode t high × IsNode t made × IsTested t p (tree_of t low) (tree_of t high) (tree_of t made)

abbrev pub test_eq : ℕ × ℕ × ℕ → ℕ × ℕ × ℕ → Bool
test_eq a b = nat_eq a.0 b.0 && nat_eq a.1 b.1 && nat_eq a.2 b.2
