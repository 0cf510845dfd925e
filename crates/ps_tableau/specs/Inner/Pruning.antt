-- Covers that lose letters for which others ask for no more.
use Rattle.std.specs.Prelude.{◌≡◌, ℕ, All, Contains, List, [], ◌∷◌, ◌++◌, Some, slice_get}
use Rattle.ps_formula.specs.NormalForms.{NormalFormula}
use Rattle.ps_tableau.specs.Boards.{IsEdgeOf, cover_of, covers_of}
use Rattle.ps_tableau.specs.Covers.{Cover}
use Rattle.ps_tableau.specs.Operators.{ArePruned}
use Rattle.ps_tableau.specs.declared.board.Board.{Board}
use Rattle.ps_tableau.specs.declared.edge.Edge.{Edge}

-- what the first cover asks for, the second asks for too
pub record AsksLess (less more : Cover) : Type 0 where
  pub next : (f : NormalFormula) → Contains less.next f → Contains more.next f
  pub postponed : (f : NormalFormula) → Contains less.postponed f → Contains more.postponed f

-- the edge at the place has the same sets as another
pub record IsPlaceOfSame (edge : Edge) (covers : List Edge) (place : ℕ) : Type 0 where
  pub other : Edge
  pub there : slice_get covers place ≡ Some other
  pub next : other.next ≡ edge.next
  pub postponed : other.postponed ≡ edge.postponed

-- an edge whose cover has a property
pub record Makes (b : Board) (P : Cover → Type 0) (e : Edge) : Type 0 where
  pub held : IsEdgeOf b e
  pub right : P (cover_of b e)

-- an edge is left of one beside others, which stay
abbrev pub LeavesBeside : (old new : Board) → (others : List Edge) → (edge left : Edge) → Type 0
LeavesBeside old new others edge left = Makes new (λ c.
    ArePruned (covers_of old others ++ cover_of old edge ∷ []) (covers_of old others ++ c ∷ [])) left

-- an edge is left of one beside another, which stays
abbrev pub LeavesOf : (old new : Board) → (edge other left : Edge) → Type 0
LeavesOf old new edge other left = Makes new (λ c.
    ArePruned (cover_of old edge ∷ cover_of old other ∷ []) (c ∷ cover_of old other ∷ [])) left

-- edges are added that are an edge pruned
pub record AddsEdge (old new : Board) (edge : Edge) (kept more : List Edge) : Type 0 where
  pub added : List Edge
  pub is : more ≡ kept ++ added
  pub held : All (IsEdgeOf new) added
  pub pruned : ArePruned (cover_of old edge ∷ []) (covers_of new added)
