-- Diagrams of propositions over the letters of a formula, by which an automaton reads these letters.
use Rattle.std.specs.Prelude.{◌≡◌, ℕ, ◌<◌, ◌≤◌, All, List, Some, false, if◌then◌else◌, is_some, length, nat_lt}
use Rattle.std.specs.Prelude.{Vec, ◌^◌, slice_get, slice_index, true}
use Rattle.std.specs.Global.{Global}
use Rattle.ps_automaton.specs.Automata.{AutomatonData, node_of}
use Rattle.ps_diagram.specs.Table.{IsNode, Table, leaf_of}
use Rattle.ps_label.specs.Truth.{is_in}
use Rattle.ps_tableau_product.specs.Inner.Composing.{AreComposed}
use Rattle.ps_tableau_product.specs.Joints.{read_by}
use Rattle.ps_tableau_product.specs.declared.alphabet.Alphabet.{Alphabet}
use Rattle.ps_tableau_product.specs.declared.joint_plan.JointPlan.{JointPlan}
use Rattle.ps_tableau_product.specs.declared.meetings.Meetings.{Meetings}

-- the node has a leaf at the letters in which a proposition below `count` is true, and none if it is not below
abbrev pub IsBitNode : (t : Table) → (count p node : ℕ) → Type 0
IsBitNode t count p node =
    (letter : ℕ) → is_some (leaf_of t node letter) ≡ (if nat_lt p count then is_in p letter else false)

-- the first nodes are those of the first propositions
pub record AreBitNodes (t : Table) (count : ℕ) (nodes : List ℕ) : Type 0 where
  pub held : All (IsNode t) nodes
  pub each : (p : ℕ) → p < length nodes → IsBitNode t count p (slice_index nodes p)

-- the node at each index is that of the proposition with the number in the list
pub record ArePlaceNodes (t : Table) (places nodes : List ℕ) : Type 0 where
  pub one_each : length nodes ≡ length places
  pub held : All (IsNode t) nodes
  pub each : (k letter : ℕ) → k < length places →
      is_some (leaf_of t (slice_index nodes k) letter) ≡ is_in (slice_index places k) letter

-- the steps of the automaton from a state at letters for which a guard serves: each leaf with such a letter
pub record AreMet (few : ℕ) (places : List ℕ) (a : AutomatonData) (q : ℕ) (guards : Table) (guard : ℕ)
    (found : List (ℕ × ℕ)) : Type 0 where
  pub sound : (k leaf letter : ℕ) → slice_get found k ≡ Some (leaf, letter) →
      (letter < few) × (is_some (leaf_of guards guard letter) ≡ true) ×
      (leaf_of a.store (node_of a q) (read_by places letter) ≡ Some leaf)
  pub whole : (letter : ℕ) → letter < few → is_some (leaf_of guards guard letter) ≡ true →
      (k : ℕ) × (leaf : ℕ) × (least : ℕ) × (slice_get found k ≡ Some (leaf, least)) ×
      (leaf_of a.store (node_of a q) (read_by places letter) ≡ Some leaf)

-- what was found for each pair of a guard and a state
pub record AreMeetings (few : ℕ) (places : List ℕ) (a : AutomatonData) (guards : Table) (m : Meetings) : Type 0 where
  pub count : length m.pairs ≡ length m.found.items
  pub held : (place : ℕ) (pair : ℕ × ℕ) → slice_get m.pairs place ≡ Some pair → IsNode guards pair.0
  pub each : (place : ℕ) (pair : ℕ × ℕ) (found : Vec (ℕ × ℕ) Global) → slice_get m.pairs place ≡ Some pair →
      slice_get m.found.items place ≡ Some found → AreMet few places a pair.1 guards pair.0 found.items

-- the list was found for a pair
pub record HasFound (m : Meetings) (guard own : ℕ) (list : List (ℕ × ℕ)) : Type 0 where
  pub place : ℕ
  pub found : Vec (ℕ × ℕ) Global
  pub there : slice_get m.pairs place ≡ Some (guard, own)
  pub at : slice_get m.found.items place ≡ Some found
  pub is : found.items ≡ list

-- the diagrams of the propositions, and those of some guards and of some of the automaton's states
pub record IsAlphabet (plan : JointPlan) (guards : Table) (a : Alphabet) : Type 0 where
  pub propositions : a.store.propositions ≡ plan.count
  pub whole : AreBitNodes a.store plan.count a.guards.truths.items
  pub own : ArePlaceNodes a.store plan.places.now a.steps.truths.items
  pub of_guards : AreComposed a.store guards a.guards
  pub of_steps : AreComposed a.store plan.automaton.now.store a.steps
  pub of_pairs : AreMeetings (2 ^ plan.count) plan.places.now plan.automaton.now guards a.meetings

-- the node is one of a guard, and the number that of one of the automaton's states, or of its sink
pub record CanMeet (plan : JointPlan) (guards : Table) (guard own : ℕ) (a : Alphabet) : Type 0 where
  pub alphabet : IsAlphabet plan guards a
  pub is_node : IsNode guards guard
  pub within : own ≤ plan.automaton.now.states
