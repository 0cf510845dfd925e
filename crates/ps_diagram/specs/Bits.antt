-- Diagrams for the bits of letters over the propositions of a mask.
-- - `propositions_in mask n`: the propositions of the mask that are less than n, ascending
-- - `have_leaves t nodes x`: for each node, whether it has a leaf at the letter x
-- - `AreBitsOf t bits mask letter x`: at x, the diagrams `bits` have a leaf for those propositions that are true in
--   `letter`
-- - `AreLeastBits s t node mask bits`: at each letter, this is the least letter over the mask with which the node has a
--   leaf
--
-- The node is in the table s; the diagrams `bits` are in the table t.
use Rattle.std.specs.Prelude.{◌≡◌, ℕ, Bool, List, filter, is_some, map}
use Rattle.std.specs.List.{All, range_with_len}
use Rattle.ps_label.specs.Truth.{is_in}
use Rattle.ps_diagram.specs.Hidden.{HasLeafBehind, IsClear}
use Rattle.ps_diagram.specs.Labels.{IsOneOrNone}
use Rattle.ps_diagram.specs.Letters.{AgreeOff, IsLeastLetter}
use Rattle.ps_diagram.specs.Table.{Table, IsNode, leaf_of}

abbrev pub propositions_in : ℕ → ℕ → List ℕ
propositions_in mask n = filter (λ p. is_in p mask) (range_with_len 0 n)

abbrev pub have_leaves : Table → List ℕ → ℕ → List Bool
have_leaves t nodes x = map (λ node. is_some (leaf_of t node x)) nodes

-- the node has the leaf 1 at a letter, or no leaf
pub record IsBit (t : Table) (node : ℕ) : Type 0 where
  pub held : IsNode t node
  pub leaf : (letter : ℕ) → IsOneOrNone (leaf_of t node letter)

abbrev pub AreBitsOf : (t : Table) (bits : List ℕ) (mask letter x : ℕ) → Type 0
AreBitsOf t bits mask letter x = have_leaves t bits x ≡ map (λ p. is_in p letter) (propositions_in mask t.propositions)

-- at x, the bits are those of the least letter over the mask that, together with x, leads to a leaf
pub record HasLeastBits (s t : Table) (node mask : ℕ) (bits : List ℕ) (x : ℕ) : Type 0 where
  pub letter : ℕ
  pub least : IsLeastLetter (HasLeafBehind s node mask x) letter
  pub bits_are : AreBitsOf t bits mask letter x

-- the diagrams depend only on propositions outside the mask
pub record AreLeastBits (s t : Table) (node mask : ℕ) (bits : List ℕ) : Type 0 where
  pub each : All (IsBit t) bits
  pub others : (u v : ℕ) → AgreeOff mask u v → have_leaves t bits u ≡ have_leaves t bits v
  pub leaf : (x y : ℕ) → IsClear mask x → HasLeafBehind s node mask x y → HasLeastBits s t node mask bits x

-- the bits are those of one letter, whatever the letter at which they are read
pub record AreLetterBits (t : Table) (mask letter : ℕ) (bits : List ℕ) : Type 0 where
  pub each : All (IsBit t) bits
  pub bits_are : (x : ℕ) → AreBitsOf t bits mask letter x
