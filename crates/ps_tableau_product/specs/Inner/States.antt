-- States of a tableau that were met, in the order of their numbers. The first ones have their edges.
use Rattle.std.specs.Prelude.{◌≡◌, ℕ, ◌<◌, ◌≤◌, All, List, Some, length, map, slice_get, slice_index}
use Rattle.ps_product.specs.Words.{HasGrown}
use Rattle.ps_tableau.specs.Boards.{AreEdgesOf, Grows, IsBoard, IsState}
use Rattle.ps_tableau.specs.Runs.{Tableau}
use Rattle.ps_tableau.specs.declared.board.Board.{Board}
use Rattle.ps_tableau.specs.declared.edge.Edge.{Edge}
use Rattle.ps_tableau_product.specs.BoardStates.{edges_of_state, tableau_of_states}
use Rattle.ps_tableau_product.specs.declared.states.States.{States}

pub record StatesData : Type 0 where
  pub board : Board
  pub sets : List ℕ
  pub edges : List (List Edge)

abbrev pub states_data : States → StatesData
states_data s = record { board = s.tableau; sets = s.sets; edges = map (λ row. row.items) s.edges.items }

-- the tableau of the states; a state that has no edges yet has no covers
abbrev pub tableau_in : StatesData → Tableau
tableau_in s = tableau_of_states s.board s.sets s.edges

-- the first states have their edges
pub record AreStates (s : StatesData) : Type 0 where
  pub board : IsBoard s.board
  pub few : length s.edges ≤ length s.sets
  pub states : All (IsState s.board) s.sets
  pub exact : (q : ℕ) → q < length s.edges → AreEdgesOf s.board (slice_index s.sets q) (edges_of_state s.edges q)

-- there may be more states, and more states with edges
pub record StatesGrow (old new : StatesData) : Type 0 where
  pub board : Grows old.board new.board
  pub sets : HasGrown old.sets new.sets
  pub edges : HasGrown old.edges new.edges

-- more states may have edges; there are no more states
pub record HaveMoreEdges (old new : StatesData) : Type 0 where
  pub states : AreStates new
  pub grow : StatesGrow old new
  pub same : new.sets ≡ old.sets

pub record HaveAllEdges (old new : StatesData) : Type 0 where
  pub more : HaveMoreEdges old new
  pub all : length new.sets ≤ length new.edges

-- the set has a number, and became a state if it was none; nothing else changed
pub record IsNumberOfSet (old : StatesData) (set : ℕ) (new : StatesData) (number : ℕ) : Type 0 where
  pub board : new.board ≡ old.board
  pub edges : new.edges ≡ old.edges
  pub sets : HasGrown old.sets new.sets
  pub states : AreStates new
  pub there : slice_get new.sets number ≡ Some set
