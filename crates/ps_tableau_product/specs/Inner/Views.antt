-- The diagrams of a circuit's step at given latches: of each proposition, of the next latches, and of the classes of
-- letters with the same next latches.
use Rattle.std.specs.Prelude.{◌≡◌, ℕ, ◌^◌, ◌<◌, ◌≤◌, All, Bool, List, false, is_some, length, slice_index}
use Rattle.std.specs.Prelude.{slice_index_or, true}
use Rattle.ps_circuit.specs.Values.{Moment, Steps}
use Rattle.ps_diagram.specs.Composing.{IsLetterOfTruths}
use Rattle.ps_diagram.specs.Table.{IsNode, Table, leaf_of}
use Rattle.ps_product.specs.Groups.{IsNodeFor}
use Rattle.ps_product.specs.Truths.{IsTruth, bits_at, bits_of}
use Rattle.ps_product.specs.declared.edges.Edge as product
use Rattle.ps_product.specs.declared.truth.Truth.{Truth}
use Rattle.ps_simulate.specs.Lassos.{IsLetterOf}
use Rattle.ps_tableau_product.specs.Plans.{Scene}
use Rattle.ps_tableau_product.specs.declared.views.View.{View}

abbrev pub moment_of : (latches inputs outputs : List Bool) → Moment
moment_of latches inputs outputs = record { latches = latches; inputs = inputs; outputs = outputs }

-- the circuit's step whose inputs are the bits of a letter, and the letter of this step
pub record HasStepAt (s : Scene) (latches : List Bool) (t : Table) (nodes : List ℕ) (nexts : List Truth) (x : ℕ) : Type
    0
  where
    pub outputs : List Bool
    pub whole : ℕ
    pub steps : Steps s.circuit latches (bits_at s.inputs x) outputs (bits_of t nexts x)
    pub is_letter : IsLetterOf s.names s.circuit (moment_of latches (bits_at s.inputs x) outputs) whole
    pub is_whole : IsLetterOfTruths t nodes x whole

-- a diagram for each of the 64 propositions: those of the first propositions stand for them, the others have no leaf
pub record ArePadded (t : Table) (count : ℕ) (list : List ℕ) (outputs : List Truth) (nodes : List ℕ) : Type 0 where
  pub each : length nodes ≡ 64
  pub held : All (IsNode t) nodes
  pub stand : (p : ℕ) → p < count → IsNodeFor t list outputs p (slice_index nodes p)
  pub none : (p letter : ℕ) → count ≤ p → p < 64 → is_some (leaf_of t (slice_index nodes p) letter) ≡ false

-- `classes` tells letters with different next latches apart
pub record CanTell (t : Table) (nodes : List ℕ) (nexts : List Truth) (classes : ℕ) : Type 0 where
  pub nodes_each : length nodes ≡ 64
  pub held : All (IsNode t) nodes
  pub nexts_held : All (IsTruth t) nexts
  pub classes_held : IsNode t classes
  pub total : (x : ℕ) → x < 2 ^ t.propositions → is_some (leaf_of t classes x) ≡ true
  pub same : (x y : ℕ) → x < 2 ^ t.propositions → y < 2 ^ t.propositions →
      leaf_of t classes x ≡ leaf_of t classes y → bits_of t nexts x ≡ bits_of t nexts y

-- the step leads to the next latches that belong to its own letter
pub record IsOwnStep (t : Table) (nodes : List ℕ) (nexts : List Truth) (letter : ℕ) (next : List Bool) : Type 0 where
  pub next_is : next ≡ bits_of t nexts letter
  pub is_whole : IsLetterOfTruths t nodes letter letter

-- the diagrams are those of the circuit's steps at the latches
pub record AreViews (s : Scene) (latches : List Bool) (t : Table) (nodes : List ℕ) (nexts : List Truth) (classes : ℕ) :
    Type 0 where
  pub propositions : t.propositions ≡ length s.names
  pub tell : CanTell t nodes nexts classes
  pub there : (x : ℕ) → x < 2 ^ t.propositions → HasStepAt s latches t nodes nexts x
  pub one : (m : Moment) (letter : ℕ) (next : List Bool) → m.latches ≡ latches →
      Steps s.circuit m.latches m.inputs m.outputs next → IsLetterOf s.names s.circuit m letter →
      IsOwnStep t nodes nexts letter next

abbrev pub IsView : Scene → List Bool → View → Type 0
IsView s latches v = AreViews s latches v.store v.nodes.items v.nexts.items v.classes

-- ## Letters for which a guard has a leaf

-- the guard serves for the letter that the propositions' diagrams make of x
abbrev pub ServesAt : (t : Table) → (nodes : List ℕ) → (guards : Table) → (guard x : ℕ) → Type 0
ServesAt t nodes guards guard x =
    (whole : ℕ) → IsLetterOfTruths t nodes x whole → is_some (leaf_of guards guard whole) ≡ true

abbrev pub letter_in : List (ℕ × ℕ) → ℕ → ℕ
letter_in found k = (slice_index_or found k (0, 0)).1

-- the letters found are some for which the guard serves; each letter for which it serves has next latches that one of
-- those found has
pub record AreServed (t : Table) (nodes : List ℕ) (nexts : List Truth) (guards : Table) (guard : ℕ)
    (found : List (ℕ × ℕ)) : Type 0 where
  pub low : (k : ℕ) → k < length found → letter_in found k < 2 ^ t.propositions
  pub serve : (k : ℕ) → k < length found → ServesAt t nodes guards guard (letter_in found k)
  pub whole : (x : ℕ) → x < 2 ^ t.propositions → IsLetterOfTruths t nodes x x →
      is_some (leaf_of guards guard x) ≡ true →
      (k : ℕ) × (k < length found) × (bits_of t nexts (letter_in found k) ≡ bits_of t nexts x)

-- the edges at the letters found, to the next latches and a state
pub record AreEdgesAt (t : Table) (nexts : List Truth) (found : List (ℕ × ℕ)) (state : ℕ) (edges : List product.Edge) :
    Type 0 where
  pub one_each : length edges ≡ length found
  pub letters : (k : ℕ) (d : product.Edge) → k < length edges → (slice_index_or edges k d).letter ≡ letter_in found k
  pub latches : (k : ℕ) (d : product.Edge) → k < length edges →
      (slice_index_or edges k d).to.latches.items ≡ bits_of t nexts (letter_in found k)
  pub state_is : (k : ℕ) (d : product.Edge) → k < length edges → (slice_index_or edges k d).to.state ≡ state
