-- The steps by which the bits of least letters are found, one proposition after another. (For private functions.)
-- - `Agree mask f g`: f and g agree at each proposition outside the mask
-- - `IsWhether mask a d`: the tree d has a leaf where a has one for some values of the propositions of the mask
-- - `IsLeastBit t mask p a made`: the diagram of the bit p, and what remains of the tree a where p is as this bit
-- - `AreBitsBelow s t node mask k making bits`: the bits of the propositions less than k were found
use Rattle.std.specs.Prelude.{◌≡◌, ℕ, ◌^◌, ◌<◌, ◌≤◌, Bool, true, false, List, map, IsSome, None, Some}
use Rattle.std.specs.List.{All}
use Rattle.ps_label.specs.Truth.{is_in}
use Rattle.ps_diagram.specs.declared.least_bits.Constants.{Constants}
use Rattle.ps_diagram.specs.declared.least_bits.LeastBit.{LeastBit}
use Rattle.ps_diagram.specs.Bits.{IsBit, have_leaves, propositions_in}
use Rattle.ps_diagram.specs.Inner.Chosen.{IsChosen}
use Rattle.ps_diagram.specs.Inner.Rests.{IsCofactor}
use Rattle.ps_diagram.specs.Leaves.{opposite}
use Rattle.ps_diagram.specs.Letters.{AgreeOff, assignment}
use Rattle.ps_diagram.specs.Table.{Table, IsNode, Keeps, leaf_of, tree_of}
use Rattle.ps_diagram.specs.Tree.{Tree, leaf_at}

abbrev pub Agree : ℕ → (ℕ → Bool) → (ℕ → Bool) → Type 0
Agree mask f g = (q : ℕ) → is_in q mask ≡ false → f q ≡ g q

-- a letter that agrees with f outside the mask, and leads to a leaf
pub record LeadsSomewhere (mask : ℕ) (a : Tree) (f : ℕ → Bool) : Type 0 where
  pub letter : ℕ → Bool
  pub agree : Agree mask f letter
  pub leaf : IsSome (leaf_at a letter)

pub record IsWhether (mask : ℕ) (a d : Tree) : Type 0 where
  pub blind : (f g : ℕ → Bool) → Agree mask f g → leaf_at d f ≡ leaf_at d g
  pub some : (f : ℕ → Bool) → IsSome (leaf_at d f) → LeadsSomewhere mask a f
  pub there : (f g : ℕ → Bool) → Agree mask f g → IsSome (leaf_at a g) → IsSome (leaf_at d f)

pub record IsLeastBit (t : Table) (mask p : ℕ) (a : Tree) (made : LeastBit) : Type 0 where
  pub low : Tree
  pub high : Tree
  pub can : Tree
  pub low_is : IsCofactor (2 ^ p) 0 a low
  pub high_is : IsCofactor (2 ^ p) (2 ^ p) a high
  pub whether : IsWhether mask low can
  pub rest_held : IsNode t made.rest
  pub rest : IsChosen can low high (tree_of t made.rest)
  pub bit_held : IsNode t made.bit
  pub bit : (x : ℕ) → leaf_of t made.bit x ≡ opposite (leaf_at can (assignment x))

-- h has the values of y at the propositions of the mask that are less than k, and those of g elsewhere
pub record IsSet (mask k y : ℕ) (g h : ℕ → Bool) : Type 0 where
  pub set : (q : ℕ) → q < k → is_in q mask ≡ true → h q ≡ is_in q y
  pub later : (q : ℕ) → k ≤ q → h q ≡ g q
  pub off : (q : ℕ) → is_in q mask ≡ false → h q ≡ g q

-- where g leads in the second tree, this letter leads in the first
pub record LeadsAlike (mask k y : ℕ) (a m : Tree) (g : ℕ → Bool) : Type 0 where
  pub letter : ℕ → Bool
  pub set : IsSet mask k y g letter
  pub leaf : leaf_at m g ≡ leaf_at a letter

-- y has the bits, those of the least letter at the propositions of the mask that are less than k; the tree m is what
-- remains of a for them
pub record IsLeastBelow (mask k : ℕ) (a m : Tree) (bits : List Bool) (f : ℕ → Bool) : Type 0 where
  pub y : ℕ
  pub own : (q : ℕ) → is_in q mask ≡ false → is_in q y ≡ false
  pub within : y < 2 ^ k
  pub bits_are : bits ≡ map (λ p. is_in p y) (propositions_in mask k)
  pub leads : (g : ℕ → Bool) → Agree mask f g → LeadsAlike mask k y a m g
  pub some : LeadsSomewhere mask m f
  pub least : (g : ℕ → Bool) → Agree mask f g → IsSome (leaf_at a g) → (q : ℕ) → q < k → is_in q mask ≡ true →
      g q ≡ false → is_in q y ≡ true → ((r : ℕ) → r < q → is_in r mask ≡ true → g r ≡ is_in r y) → ⊥

pub record AreBitsBelow (s t : Table) (node mask k making : ℕ) (bits : List ℕ) : Type 0 where
  pub keeps : Keeps s t
  pub held : IsNode t making
  pub each : All (IsBit t) bits
  pub others : (u v : ℕ) → AgreeOff mask u v → have_leaves t bits u ≡ have_leaves t bits v
  pub leaf : (x : ℕ) → LeadsSomewhere mask (tree_of s node) (assignment x) →
      IsLeastBelow mask k (tree_of s node) (tree_of t making) (have_leaves t bits x) (assignment x)

-- a node that has the leaf 1 everywhere, and a node that has no leaf
pub record AreConstants (t : Table) (constants : Constants) : Type 0 where
  pub one_held : IsNode t constants.one
  pub none_held : IsNode t constants.none
  pub one : (x : ℕ) → leaf_of t constants.one x ≡ Some 1
  pub none : (x : ℕ) → leaf_of t constants.none x ≡ None

-- the propositions less than k have their bits
pub record AreLetterBitsBelow (t : Table) (mask letter k : ℕ) (bits : List ℕ) : Type 0 where
  pub each : All (IsBit t) bits
  pub bits_are : (x : ℕ) → have_leaves t bits x ≡ map (λ p. is_in p letter) (propositions_in mask k)
