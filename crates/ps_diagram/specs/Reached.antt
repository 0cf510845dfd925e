-- The leaves of a node, and the least letter that leads to each leaf.
--
-- - `LeadsToLeaf t node leaf letter`: the letter leads from the node to the leaf
-- - `AreLeaves t node found`: all leaves of the node, each with its least letter, in the order of these letters
use Rattle.std.specs.Prelude.{◌≡◌, ℕ, ◌^◌, ◌<◌, Bool, true, List, [], ◌∷◌, ◌++◌, All, AllPairs, Any, Some, None, nat_eq}
use Rattle.std.specs.List.{AllByRecursion}
use Rattle.std.specs.Map.{lookup}
use Rattle.ps_label.specs.Truth.{is_in}
use Rattle.ps_diagram.specs.Letters.{assignment, IsBefore, IsLeastLetter}
use Rattle.ps_diagram.specs.Split.{root_of}
use Rattle.ps_diagram.specs.Table.{Table, IsNode, tree_of, leaf_of}
use Rattle.ps_diagram.specs.Tree.{Tree, leaf_at}

abbrev pub LeadsToLeaf : Table → ℕ → ℕ → ℕ → Type 0
LeadsToLeaf t node leaf letter = (letter < 2 ^ t.propositions) × (leaf_of t node letter ≡ Some leaf)

-- the list has all leaves of the node, each paired with the least letter that leads to it, in the order of these
-- letters
pub record AreLeaves (t : Table) (node : ℕ) (found : List (ℕ × ℕ)) : Type 0 where
  pub least : All (λ pair. IsLeastLetter (LeadsToLeaf t node pair.0) pair.1) found
  pub each : (leaf letter : ℕ) → LeadsToLeaf t node leaf letter → Any (λ pair. pair.0 ≡ leaf) found
  pub rising : AllPairs (λ a b. IsBefore a.1 b.1) found

-- ## While leaves are gathered: below a node to which the start of a letter leads

abbrev pub IsFound : List (ℕ × ℕ) → ℕ → Type 0
IsFound found leaf = (letter : ℕ) × (lookup (nat_eq leaf) found ≡ Some letter)

-- The letter `place` leads to the leaf in the tree t. The letters `place` and `letter` agree on all propositions before
-- the first proposition that t tests. Every letter x before `place` that leads to the leaf is excluded by `letter`: the
-- first proposition at which x and `place` differ is true in `letter`.
pub record IsFirstLetterTo (n : ℕ) (t : Tree) (letter leaf place : ℕ) : Type 0 where
  pub within : place < 2 ^ n
  pub there : leaf_at t (assignment place) ≡ Some leaf
  pub same : (q : ℕ) → q < root_of n t → is_in q place ≡ is_in q letter
  pub least : (x : ℕ) → leaf_at t (assignment x) ≡ Some leaf → (before : IsBefore x place) →
      is_in before.first letter ≡ true

abbrev pub AreRising : List (ℕ × ℕ) → Type 0
AreRising [] = Unit {0}
AreRising (pair ∷ pairs) = AllByRecursion (λ later. IsBefore pair.1 later.1) pairs × AreRising pairs

-- the new list is the old list, followed by those leaves of the tree that the old list lacks
pub record Gathers (n : ℕ) (t : Tree) (letter : ℕ) (old new : List (ℕ × ℕ)) : Type 0 where
  pub added : List (ℕ × ℕ)
  pub is : new ≡ old ++ added
  pub first : AllByRecursion (λ pair. IsFirstLetterTo n t letter pair.0 pair.1) added
  pub fresh : AllByRecursion (λ pair. lookup (nat_eq pair.0) old ≡ None) added
  pub rising : AreRising added
  pub whole : (f : ℕ → Bool) (leaf : ℕ) → leaf_at t f ≡ Some leaf → IsFound new leaf

pub record IsGathered (t : Table) (node : ℕ) (found : List (ℕ × ℕ)) : Type 0 where
  pub held : IsNode t node
  pub all : Gathers t.propositions (tree_of t node) 0 [] found

-- the list has all leaves of all nodes that were visited
abbrev pub HaveFound : Table → (ℕ → Bool) → List (ℕ × ℕ) → Type 0
HaveFound t seen found = (node : ℕ) → seen node ≡ true → (f : ℕ → Bool) (leaf : ℕ) →
    leaf_at (tree_of t node) f ≡ Some leaf → IsFound found leaf
