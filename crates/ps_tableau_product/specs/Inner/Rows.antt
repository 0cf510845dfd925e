-- The edges of a vertex of the product.
use Rattle.std.specs.Prelude.{◌≡◌, ℕ, ◌<◌, Bool, Contains, List, Some, is_some, length, slice_get, true}
use Rattle.ps_circuit.specs.Values.{Moment, Steps}
use Rattle.ps_diagram.specs.Table.{leaf_of}
use Rattle.ps_product.specs.Products.{ProductVertex}
use Rattle.ps_product.specs.Truths.{bits_at}
use Rattle.ps_simulate.specs.Lassos.{IsLetterOf}
use Rattle.ps_tableau.specs.declared.edge.Edge.{Edge}
use Rattle.ps_tableau_product.specs.BoardStates.{edges_of_state}
use Rattle.ps_tableau_product.specs.Inner.Growing.{GrowsBy}
use Rattle.ps_tableau_product.specs.Inner.States.{StatesData}
use Rattle.ps_tableau_product.specs.Plans.{Scene}
use Rattle.ps_tableau_product.specs.Inner.Views.{moment_of}
use Rattle.ps_tableau_product.specs.declared.graph.Passage.{Passage}

-- the edges of the tableau from the state of a vertex
abbrev pub covers_at : StatesData → ProductVertex → List Edge
covers_at st v = edges_of_state st.edges v.state

-- a cover serves for a letter
abbrev pub ServesFor : StatesData → Edge → ℕ → Type 0
ServesFor st cover letter = is_some (leaf_of st.board.guards cover.guard letter) ≡ true

-- a step of the circuit from v to w, with a cover that serves for the letter of the step and leads to the state of w
pub record IsPassage (s : Scene) (st : StatesData) (v : ProductVertex) (x : Passage) (w : ProductVertex) : Type 0 where
  pub outputs : List Bool
  pub whole : ℕ
  pub steps : Steps s.circuit v.latches (bits_at s.inputs x.letter) outputs w.latches
  pub is_letter : IsLetterOf s.names s.circuit (moment_of v.latches (bits_at s.inputs x.letter) outputs) whole
  pub known : Contains (covers_at st v) x.cover
  pub serves : ServesFor st x.cover whole
  pub to : slice_get st.sets w.state ≡ Some x.cover.next

pub record LeadsBy (s : Scene) (st : StatesData) (vertices : List ProductVertex) (v : ProductVertex) (x : Passage) :
    Type 0 where
  pub to : ProductVertex
  pub stands : slice_get vertices x.to ≡ Some to
  pub is_passage : IsPassage s st v x to

-- some edge of the row has the cover, and leads to the latches
pub record HasPassage (vertices : List ProductVertex) (row : List Passage) (cover : Edge) (latches : List Bool) : Type 0
  where
    pub place : ℕ
    pub passage : Passage
    pub there : slice_get row place ≡ Some passage
    pub cover_is : passage.cover ≡ cover
    pub to : ProductVertex
    pub stands : slice_get vertices passage.to ≡ Some to
    pub latches_are : to.latches ≡ latches

-- each step from v whose letter the cover serves for has an edge
abbrev pub HasEachStep : Scene → StatesData → List ProductVertex → ProductVertex → List Passage → Edge → Type 0
HasEachStep s st vertices v row cover =
    (m : Moment) (letter : ℕ) (next : List Bool) → m.latches ≡ v.latches →
    Steps s.circuit m.latches m.inputs m.outputs next → IsLetterOf s.names s.circuit m letter →
    ServesFor st cover letter → HasPassage vertices row cover next

-- the row has edges that leave v, with each step for the first covers
pub record IsRowUpTo (s : Scene) (st : StatesData) (vertices : List ProductVertex) (v : ProductVertex)
    (row : List Passage) (done : ℕ) : Type 0 where
  pub lead : (k : ℕ) (x : Passage) → slice_get row k ≡ Some x → LeadsBy s st vertices v x
  pub whole : (i : ℕ) (cover : Edge) → i < done → slice_get (covers_at st v) i ≡ Some cover →
      HasEachStep s st vertices v row cover

abbrev pub IsRow : Scene → StatesData → List ProductVertex → ProductVertex → List Passage → Type 0
IsRow s st vertices v row = IsRowUpTo s st vertices v row (length (covers_at st v))

abbrev pub VerticesGrow : (old new : List ProductVertex) → List Passage → Type 0
VerticesGrow old new row = GrowsBy (λ (x : Passage). x.to) old new row
