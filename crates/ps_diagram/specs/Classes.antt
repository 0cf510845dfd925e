-- The classes of the letters over the propositions of a mask.
use Rattle.std.specs.Prelude.{◌≡◌, ◌↔◌, ℕ, ◌<◌, ◌^◌, false, List, length, slice_get, Some, AllPairs, IsSomeAnd}
use Rattle.ps_label.specs.Truth.{is_in}
use Rattle.ps_diagram.specs.declared.classes.Class.{Class}
use Rattle.ps_diagram.specs.Letters.{AgreeOff, AgreeOn, IsBefore, IsLeastLetter}
use Rattle.ps_diagram.specs.Reached.{LeadsToLeaf}
use Rattle.ps_diagram.specs.Table.{Table, IsNode, leaf_of}

-- whatever the truth values of the propositions outside the mask, the letters x and y lead to the same leaf, or both to
-- no leaf
abbrev pub LeadAlike : Table → ℕ → ℕ → ℕ → ℕ → Type 0
LeadAlike t node mask x y =
    (u v : ℕ) → AgreeOn mask x u → AgreeOn mask y v → AgreeOff mask u v → leaf_of t node u ≡ leaf_of t node v

-- c is the class of letters with the index k. The class's letter is the least letter in the class; only propositions of
-- the mask are true in it. The class's diagram depends only on propositions outside the mask. At each letter of the
-- class, this diagram has the same leaf as the node that was divided.
pub record IsClass (s t : Table) (node mask places k : ℕ) (c : Class) : Type 0 where
  pub least : IsLeastLetter (LeadsToLeaf t places k) c.letter
  pub masked : (p : ℕ) → is_in p mask ≡ false → is_in p c.letter ≡ false
  pub held : IsNode t c.rest
  pub others : (x y : ℕ) → AgreeOff mask x y → leaf_of t c.rest x ≡ leaf_of t c.rest y
  pub shared : (x : ℕ) → leaf_of t places x ≡ Some k → leaf_of t c.rest x ≡ leaf_of s node x

-- The node that is divided is in the table s; the diagrams of its classes are in the table t. The diagram `places`
-- depends only on the mask, and leads each letter to the index of its class in the list. Two letters are in one class
-- exactly if they lead to the same leaves for all values of the propositions outside the mask (`LeadAlike`). The
-- classes are in ascending order of their letters.
pub record AreClasses (s t : Table) (node mask places : ℕ) (list : List Class) : Type 0 where
  pub held : IsNode t places
  pub read : (x y : ℕ) → AgreeOn mask x y → leaf_of t places x ≡ leaf_of t places y
  pub placed : (x : ℕ) → IsSomeAnd (leaf_of t places x) (λ k. k < length list)
  pub alike : (x y : ℕ) → x < 2 ^ t.propositions → y < 2 ^ t.propositions →
      (leaf_of t places x ≡ leaf_of t places y) ↔ LeadAlike s node mask x y
  pub each : (k : ℕ) (c : Class) → slice_get list k ≡ Some c → IsClass s t node mask places k c
  pub rising : AllPairs (λ a b. IsBefore a.letter b.letter) list
