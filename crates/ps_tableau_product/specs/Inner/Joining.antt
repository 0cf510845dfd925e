-- The product of an automaton and a tableau in the making, to which edges and vertices are added while its vertices are
-- explored. A vertex is a state of the automaton, or its sink, and a state of the tableau.
use Rattle.std.specs.Prelude.{◌≡◌, ◌⊎◌, ℕ, ◌^◌, ◌<◌, ◌≤◌, ◌++◌, Contains, List, Some, length, map, slice_get}
use Rattle.std.specs.Prelude.{slice_index_or}
use Rattle.ps_automaton.specs.Automata.{AutomatonData, pair_of, step_of}
use Rattle.ps_product.specs.Words.{HasGrown}
use Rattle.ps_tableau.specs.declared.edge.Edge.{Edge}
use Rattle.ps_tableau_product.specs.BoardStates.{edges_of_state}
use Rattle.ps_tableau_product.specs.Inner.Alphabets.{IsAlphabet}
use Rattle.ps_tableau_product.specs.Inner.Drafts.{AddsTo, AreFit, DraftOf, EndsIn, GoesOn, IsExploredTo, IsWholeDraft}
use Rattle.ps_tableau_product.specs.Inner.Drafts.{ProductKind}
use Rattle.ps_tableau_product.specs.Inner.Growing.{GrowsBy}
use Rattle.ps_tableau_product.specs.Joints.{read_by}
use Rattle.ps_tableau_product.specs.Inner.Rows.{ServesFor}
use Rattle.ps_tableau_product.specs.Inner.States.{StatesData, states_data}
use Rattle.ps_tableau_product.specs.declared.alphabet.Alphabet.{Alphabet}
use Rattle.ps_tableau_product.specs.declared.joining.JointDraft.{JointDraft}
use Rattle.ps_tableau_product.specs.declared.joining.Visit.{Visit}
use Rattle.ps_tableau_product.specs.declared.joint.JointEdge.{JointEdge}
use Rattle.ps_tableau_product.specs.declared.joint_plan.JointPlan.{JointPlan}

-- the automaton, the number of letters, and the numbers of the automaton's propositions in the formula
pub record Pairing : Type 0 where
  pub own : AutomatonData
  pub few : ℕ
  pub places : List ℕ

abbrev pub pairing_of : JointPlan → Pairing
pairing_of plan = record { own = plan.automaton.now; few = 2 ^ plan.count; places = plan.places.now }

abbrev pub JointDraftData : Type 0
JointDraftData = DraftOf (ℕ × ℕ) JointEdge

abbrev pub joint_draft : JointDraft → JointDraftData
joint_draft d = record {
  states = states_data d.states;
  vertices = d.vertices;
  rows = map (λ row. row.items) d.rows.items;
}

-- ## Edges

-- the edges of the tableau from the state of a vertex
abbrev pub joint_covers : StatesData → ℕ × ℕ → List Edge
joint_covers st v = edges_of_state st.edges v.1

-- a step of the automaton from v, with a cover that serves for the letter of the step and leads to a state
pub record LeadsJointly (s : Pairing) (st : StatesData) (vertices : List (ℕ × ℕ)) (v : ℕ × ℕ) (x : JointEdge) : Type 0
  where
    pub to : ℕ × ℕ
    pub stands : slice_get vertices x.to ≡ Some to
    pub low : x.letter < s.few
    pub own : to.0 ≡ (step_of s.own v.0 (read_by s.places x.letter)).state
    pub priority : x.priority ≡ (step_of s.own v.0 (read_by s.places x.letter)).priority
    pub known : Contains (joint_covers st v) x.cover
    pub serves : ServesFor st x.cover x.letter
    pub next : slice_get st.sets to.1 ≡ Some x.cover.next

-- some edge of the row has the cover, and the priority and the target of the automaton's step at the letter
pub record HasJointPassage (s : Pairing) (vertices : List (ℕ × ℕ)) (row : List JointEdge) (v : ℕ × ℕ) (cover : Edge)
    (letter : ℕ) : Type 0 where
  pub place : ℕ
  pub passage : JointEdge
  pub there : slice_get row place ≡ Some passage
  pub cover_is : passage.cover ≡ cover
  pub to : ℕ × ℕ
  pub stands : slice_get vertices passage.to ≡ Some to
  pub own : to.0 ≡ (step_of s.own v.0 (read_by s.places letter)).state
  pub priority : passage.priority ≡ (step_of s.own v.0 (read_by s.places letter)).priority

-- each letter for which the cover serves has an edge
abbrev pub HasEachJoint : Pairing → StatesData → List (ℕ × ℕ) → ℕ × ℕ → List JointEdge → Edge → Type 0
HasEachJoint s st vertices v row cover =
    (letter : ℕ) → letter < s.few → ServesFor st cover letter → HasJointPassage s vertices row v cover letter

-- the row has edges that leave v, with each step for the first covers
pub record IsJointRowUpTo (s : Pairing) (st : StatesData) (vertices : List (ℕ × ℕ)) (v : ℕ × ℕ) (row : List JointEdge)
    (done : ℕ) : Type 0 where
  pub lead : (k : ℕ) (x : JointEdge) → slice_get row k ≡ Some x → LeadsJointly s st vertices v x
  pub whole : (i : ℕ) (cover : Edge) → i < done → slice_get (joint_covers st v) i ≡ Some cover →
      HasEachJoint s st vertices v row cover

abbrev pub IsJointRow : Pairing → StatesData → List (ℕ × ℕ) → ℕ × ℕ → List JointEdge → Type 0
IsJointRow s st vertices v row = IsJointRowUpTo s st vertices v row (length (joint_covers st v))

abbrev pub JointsGrow : (old new : List (ℕ × ℕ)) → List JointEdge → Type 0
JointsGrow old new row = GrowsBy (λ (x : JointEdge). x.to) old new row

-- ## Vertices

pub record IsPaired (s : Pairing) (st : StatesData) (v : ℕ × ℕ) : Type 0 where
  pub own : v.0 ≤ s.own.states
  pub state : v.1 < length st.sets

abbrev pub pair_kind : Pairing → ProductKind (ℕ × ℕ) JointEdge
pair_kind s = record {
  Fits = IsPaired s;
  HasRow = IsJointRow s;
  first = (s.own.start, 0);
  state = λ v. v.1;
  to = λ x. x.to;
}

abbrev pub ArePaired : Pairing → JointDraftData → Type 0
ArePaired s d = AreFit (pair_kind s) d

abbrev pub IsJointExplored : Pairing → JointDraftData → (count : ℕ) → Type 0
IsJointExplored s d count = IsExploredTo (pair_kind s) d count

abbrev pub ExploresJoint : Pairing → (old new : JointDraftData) → (count : ℕ) → Type 0
ExploresJoint s old new count = GoesOn (pair_kind s) old new count

abbrev pub IsFullJointDraft : Pairing → JointDraftData → Type 0
IsFullJointDraft s d = IsWholeDraft (pair_kind s) d

abbrev pub CompletesJoint : Pairing → (old new : JointDraftData) → Type 0
CompletesJoint s old new = EndsIn (pair_kind s) old new

-- ## One vertex

abbrev pub visited : Visit → ℕ × ℕ
visited v = (v.own, v.state)

-- the vertex with a number, whose state of the tableau has its edges
pub record IsVisitOf (d : JointDraftData) (vertex : ℕ) (v : Visit) : Type 0 where
  pub there : slice_get d.vertices vertex ≡ Some (visited v)
  pub covers : v.state < length d.states.edges

-- a pair of states, of which that of the tableau has its edges; and diagrams for its steps
pub record IsVisit (plan : JointPlan) (d : JointDraftData) (a : Alphabet) (v : Visit) : Type 0 where
  pub paired : ArePaired (pairing_of plan) d
  pub own : v.own ≤ plan.automaton.now.states
  pub covers : v.state < length d.states.edges
  pub alphabet : IsAlphabet plan d.states.board.guards a

abbrev pub AddsJoints : Pairing → (old new : JointDraftData) → List JointEdge → Type 0
AddsJoints s old new row = AddsTo (pair_kind s) old new row

-- the edges of the vertex with one cover were appended to a row
pub record AddsJointCover (s : Pairing) (old new : JointDraftData) (v : ℕ × ℕ) (cover : Edge)
    (row made : List JointEdge) : Type 0 where
  pub adds : AddsJoints s old new made
  pub more : List JointEdge
  pub made_is : made ≡ row ++ more
  pub lead : (k : ℕ) (x : JointEdge) → slice_get more k ≡ Some x → LeadsJointly s new.states new.vertices v x
  pub whole : HasEachJoint s new.states new.vertices v made cover

-- the row has the edges of the vertex with the first covers of its state
pub record IsJointMadeUpTo (s : Pairing) (old new : JointDraftData) (v : ℕ × ℕ) (row : List JointEdge) (done : ℕ) :
    Type 0 where
  pub adds : AddsJoints s old new row
  pub made : IsJointRowUpTo s new.states new.vertices v row done

-- the row has all edges of a vertex
pub record IsJointMadeFor (s : Pairing) (old new : JointDraftData) (v : ℕ × ℕ) (row : List JointEdge) : Type 0 where
  pub adds : AddsJoints s old new row
  pub made : IsJointRow s new.states new.vertices v row

-- ## One cover

-- the edge of a leaf and a letter: the automaton's step, and a state of the tableau
pub record IsJoinedAt (own : AutomatonData) (vertices : List (ℕ × ℕ)) (found : ℕ × ℕ) (state : ℕ) (cover : Edge)
    (x : JointEdge) : Type 0 where
  pub cover_is : x.cover ≡ cover
  pub letter_is : x.letter ≡ found.1
  pub priority_is : x.priority ≡ (pair_of own found.0).priority
  pub stands : slice_get vertices x.to ≡ Some ((pair_of own found.0).state, state)

-- edges were appended to a row, one for each of the first leaves and letters; vertices were added to which they lead
pub record JoinsUpTo (own : AutomatonData) (old new : List (ℕ × ℕ)) (met : List (ℕ × ℕ)) (state : ℕ) (cover : Edge)
    (row made : List JointEdge) (count : ℕ) : Type 0 where
  pub grown : HasGrown old new
  pub more : List JointEdge
  pub made_is : made ≡ row ++ more
  pub one_each : length more ≡ count
  pub each : (k : ℕ) (x : JointEdge) → slice_get more k ≡ Some x →
      IsJoinedAt own new (slice_index_or met k (0, 0)) state cover x
  pub from : (i : ℕ) (v : ℕ × ℕ) → slice_get new i ≡ Some v →
      (slice_get old i ≡ Some v) ⊎ ((k : ℕ) × (x : JointEdge) × (slice_get more k ≡ Some x) × (x.to ≡ i))
