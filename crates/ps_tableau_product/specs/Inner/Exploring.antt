-- The product in the making, to which edges and vertices are added while its vertices are explored.
use Rattle.std.specs.Prelude.{◌≡◌, ◌⊎◌, ℕ, ◌<◌, ◌++◌, Contains, List, Some, length, map, slice_get, slice_index}
use Rattle.std.specs.Prelude.{slice_index_or}
use Rattle.ps_circuit.specs.Values.{resets}
use Rattle.ps_product.specs.Products.{ProductVertex}
use Rattle.ps_product.specs.Vertices.{product_vertex}
use Rattle.ps_product.specs.Words.{HasGrown}
use Rattle.ps_product.specs.declared.edges.Edge as product
use Rattle.ps_tableau.specs.declared.edge.Edge.{Edge}
use Rattle.ps_tableau_product.specs.Inner.Drafts.{AddsTo, AreFit, DraftOf, EndsIn, GoesOn, IsExploredTo, IsWholeDraft}
use Rattle.ps_tableau_product.specs.Inner.Drafts.{MakesRow}
use Rattle.ps_tableau_product.specs.Inner.Drafts.{ProductKind}
use Rattle.ps_tableau_product.specs.Inner.Rows.{HasEachStep, IsRow, IsRowUpTo, LeadsBy, covers_at}
use Rattle.ps_tableau_product.specs.Inner.States.{StatesData, states_data}
use Rattle.ps_tableau_product.specs.Inner.Views.{IsView}
use Rattle.ps_tableau_product.specs.Plans.{Scene}
use Rattle.ps_tableau_product.specs.declared.exploring.Draft.{Draft}
use Rattle.ps_tableau_product.specs.declared.graph.Passage.{Passage}
use Rattle.ps_tableau_product.specs.declared.views.View.{View}

abbrev pub DraftData : Type 0
DraftData = DraftOf ProductVertex Passage

abbrev pub draft_data : Draft → DraftData
draft_data d = record {
  states = states_data d.states;
  vertices = d.numbering;
  rows = map (λ row. row.items) d.rows.items;
}

abbrev pub first_of : Scene → ProductVertex
first_of s = record { latches = resets s.circuit; state = 0; priority = 0 }

pub record IsProper (s : Scene) (st : StatesData) (v : ProductVertex) : Type 0 where
  pub wide : length v.latches ≡ length s.circuit.latches
  pub state : v.state < length st.sets

abbrev pub circuit_kind : Scene → ProductKind ProductVertex Passage
circuit_kind s = record {
  Fits = IsProper s;
  HasRow = IsRow s;
  first = first_of s;
  state = λ v. v.state;
  to = λ x. x.to;
}

abbrev pub AreProper : Scene → DraftData → Type 0
AreProper s d = AreFit (circuit_kind s) d

abbrev pub IsExplored : Scene → DraftData → (count : ℕ) → Type 0
IsExplored s d count = IsExploredTo (circuit_kind s) d count

abbrev pub Explores : Scene → (old new : DraftData) → (count : ℕ) → Type 0
Explores s old new count = GoesOn (circuit_kind s) old new count

abbrev pub IsFullDraft : Scene → DraftData → Type 0
IsFullDraft s d = IsWholeDraft (circuit_kind s) d

abbrev pub Completes : Scene → (old new : DraftData) → Type 0
Completes s old new = EndsIn (circuit_kind s) old new

-- ## One vertex

-- the state of the vertex has its edges
abbrev pub HasCoversAt : DraftData → ℕ → Type 0
HasCoversAt d vertex = (v : ProductVertex) → slice_get d.vertices vertex ≡ Some v → v.state < length d.states.edges

-- the diagrams are those of a step at the latches of the vertex, whose state has its edges
pub record IsVisited (s : Scene) (d : DraftData) (vertex : ℕ) (view : View) : Type 0 where
  pub are_fit : AreProper s d
  pub at : ProductVertex
  pub there : slice_get d.vertices vertex ≡ Some at
  pub covers : at.state < length d.states.edges
  pub is_view : IsView s at.latches view

-- the cover is one of the vertex's state
pub record IsCoverAt (d : DraftData) (vertex : ℕ) (cover : Edge) : Type 0 where
  pub at : ProductVertex
  pub there : slice_get d.vertices vertex ≡ Some at
  pub covers : at.state < length d.states.edges
  pub is_cover : Contains (covers_at d.states at) cover

abbrev pub AddsVertices : Scene → (old new : DraftData) → List Passage → Type 0
AddsVertices s old new row = AddsTo (circuit_kind s) old new row

-- the edges of the vertex with one cover were appended to a row
pub record AddsCover (s : Scene) (old new : DraftData) (vertex : ℕ) (cover : Edge) (row made : List Passage) : Type 0
  where
    pub adds : AddsVertices s old new made
    pub at : ProductVertex
    pub there : slice_get old.vertices vertex ≡ Some at
    pub more : List Passage
    pub made_is : made ≡ row ++ more
    pub lead : (k : ℕ) (x : Passage) → slice_get more k ≡ Some x → LeadsBy s new.states new.vertices at x
    pub whole : HasEachStep s new.states new.vertices at made cover

-- the row has the edges of the vertex with the first covers of its state
pub record IsMadeUpTo (s : Scene) (old new : DraftData) (vertex : ℕ) (row : List Passage) (done : ℕ) : Type 0 where
  pub adds : AddsVertices s old new row
  pub at : ProductVertex
  pub there : slice_get old.vertices vertex ≡ Some at
  pub made : IsRowUpTo s new.states new.vertices at row done

abbrev pub IsMadeRow : Scene → (old new : DraftData) → (vertex : ℕ) → List Passage → Type 0
IsMadeRow s old new vertex row = MakesRow (circuit_kind s) old new vertex row

-- ## Numbered edges

-- the edge with the cover, and the letter and the number at a place
pub record IsPassageOf (numbers letters : List ℕ) (cover : Edge) (k : ℕ) (x : Passage) : Type 0 where
  pub cover_is : x.cover ≡ cover
  pub letter_is : x.letter ≡ slice_index letters k
  pub to_is : x.to ≡ slice_index numbers k

-- a row was extended by an edge for each of the first numbers
pub record Grew (numbers letters : List ℕ) (cover : Edge) (old new : List Passage) (count : ℕ) : Type 0 where
  pub more : List Passage
  pub is : new ≡ old ++ more
  pub each : length more ≡ count
  pub made : (k : ℕ) (x : Passage) → slice_get more k ≡ Some x → IsPassageOf numbers letters cover k x

-- edges were appended to a row, each with its letter and the number of its vertex
pub record Appends (old new : List ProductVertex) (edges : List product.Edge) (cover : Edge) (row made : List Passage) :
    Type 0 where
  pub grown : HasGrown old new
  pub more : List Passage
  pub made_is : made ≡ row ++ more
  pub one_each : length more ≡ length edges
  pub each : (k : ℕ) (d : product.Edge) (x : Passage) → slice_get more k ≡ Some x →
      (x.cover ≡ cover) × (x.letter ≡ (slice_index_or edges k d).letter) ×
      (slice_get new x.to ≡ Some (product_vertex (slice_index_or edges k d).to))
  pub from : (i : ℕ) (v : ProductVertex) → slice_get new i ≡ Some v →
      (slice_get old i ≡ Some v) ⊎ ((k : ℕ) × (x : Passage) × (slice_get more k ≡ Some x) × (x.to ≡ i))
