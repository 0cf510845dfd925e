-- A product in the making: the states of the tableau and the vertices that were found, and a row of edges for each of
-- the first vertices.
-- - `ProductKind V X`: what the vertices and the edges are
-- - `IsBlank d`: the initial state was found, and no vertices
-- - `IsExploredTo k d count`: the first `count` vertices that were found have been explored
-- - `GoesOn k old new count`: the same of the new draft, whose tableau keeps what the old one has
-- - `IsWholeDraft k d`: all vertices have been explored, and all states have their edges
-- - `EndsIn k old new`: the same of the new draft, whose tableau keeps what the old one has
-- - `AddsTo k old new row`: states and vertices were added, to which edges of the row lead
use Rattle.std.specs.Prelude.{◌≡◌, ℕ, ◌<◌, ◌≤◌, List, [], ◌∷◌, Some, length, slice_get, slice_index_or}
use Rattle.ps_product.specs.Words.{HasGrown}
use Rattle.ps_tableau.specs.Boards.{Grows}
use Rattle.ps_tableau_product.specs.Inner.Growing.{GrowsBy, IsLedInto}
use Rattle.ps_tableau_product.specs.Inner.States.{AreStates, StatesData}

-- which vertices fit the states, and which rows of edges are right for a vertex; the first vertex; the state of a
-- vertex; and the number of the vertex to which an edge leads
pub record ProductKind (V X : Type 0) : Type 1 where
  pub Fits : StatesData → V → Type 0
  pub HasRow : StatesData → List V → V → List X → Type 0
  pub first : V
  pub state : V → ℕ
  pub to : X → ℕ

pub record DraftOf (V X : Type 0) : Type 0 where
  pub states : StatesData
  pub vertices : List V
  pub rows : List (List X)

-- the states are sound, and the vertices fit them
pub record AreFit {V X : Type 0} (k : ProductKind V X) (d : DraftOf V X) : Type 0 where
  pub states : AreStates d.states
  pub each : (i : ℕ) (v : V) → slice_get d.vertices i ≡ Some v → k.Fits d.states v

pub record IsBlank {V X : Type 0} (d : DraftOf V X) : Type 0 where
  pub states : AreStates d.states
  pub sets : d.states.sets ≡ d.states.board.initial ∷ []
  pub vertices : d.vertices ≡ []
  pub rows : d.rows ≡ []

-- The first `count` vertices that were found have been explored: each has its edges. Each vertex except the first is
-- led to by an earlier explored one.
pub record IsExploredTo {V X : Type 0} (k : ProductKind V X) (d : DraftOf V X) (count : ℕ) : Type 0 where
  pub are_fit : AreFit k d
  pub initial : slice_get d.states.sets 0 ≡ Some d.states.board.initial
  pub rows_each : length d.rows ≡ count
  pub within : count ≤ length d.vertices
  pub first : slice_get d.vertices 0 ≡ Some k.first
  pub have_covers : (i : ℕ) (v : V) → i < count → slice_get d.vertices i ≡ Some v →
      k.state v < length d.states.edges
  pub explored : (i : ℕ) (v : V) → i < count → slice_get d.vertices i ≡ Some v →
      k.HasRow d.states d.vertices v (slice_index_or d.rows i [])
  pub led : (i : ℕ) → 0 < i → i < length d.vertices → IsLedInto k.to d.rows i

pub record GoesOn {V X : Type 0} (k : ProductKind V X) (old new : DraftOf V X) (count : ℕ) : Type 0 where
  pub explored : IsExploredTo k new count
  pub grows : Grows old.states.board new.states.board

pub record IsWholeDraft {V X : Type 0} (k : ProductKind V X) (d : DraftOf V X) : Type 0 where
  pub explored : IsExploredTo k d (length d.vertices)
  pub covers : length d.states.sets ≤ length d.states.edges

pub record EndsIn {V X : Type 0} (k : ProductKind V X) (old new : DraftOf V X) : Type 0 where
  pub whole : IsWholeDraft k new
  pub grows : Grows old.states.board new.states.board

-- states and vertices were added, to which edges of the row lead; nothing else changed
pub record AddsTo {V X : Type 0} (k : ProductKind V X) (old new : DraftOf V X) (row : List X) : Type 0 where
  pub are_fit : AreFit k new
  pub board : new.states.board ≡ old.states.board
  pub edges : new.states.edges ≡ old.states.edges
  pub sets : HasGrown old.states.sets new.states.sets
  pub rows : new.rows ≡ old.rows
  pub vertices : GrowsBy k.to old.vertices new.vertices row

-- the row has all edges of a vertex
pub record MakesRow {V X : Type 0} (k : ProductKind V X) (old new : DraftOf V X) (vertex : ℕ) (row : List X) : Type 0
  where
    pub adds : AddsTo k old new row
    pub at : V
    pub there : slice_get old.vertices vertex ≡ Some at
    pub made : k.HasRow new.states new.vertices at row
