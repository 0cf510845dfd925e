-- Covers that are joined. (For private functions.)
use Rattle.std.specs.Prelude.{◌≡◌, ◌↔◌, ◌⊎◌, ℕ, All, Contains, IsTrue, List, [], ◌∷◌, ◌++◌, Some, slice_get}
use Rattle.std.specs.Prelude.{Vec, length}
use Rattle.std.specs.Global.{Global}
use Rattle.ps_formula.specs.NormalForms.{NormalFormula}
use Rattle.ps_tableau.specs.Boards.{HaveWays, IsEdgeOf, cover_of, covers_of}
use Rattle.ps_tableau.specs.Covers.{Cover}
use Rattle.ps_tableau.specs.Operators.{AreProducts, ArePruned}
use Rattle.ps_tableau.specs.declared.board.Board.{Board}
use Rattle.ps_tableau.specs.declared.edge.Edge.{Edge}
use Rattle.ps_tableau.specs.declared.known.Known.{Known}
use Rattle.ps_tableau.specs.Sets.{indices_in}

-- two edges
pub record AreBothEdges (b : Board) (d e : Edge) : Type 0 where
  pub first : IsEdgeOf b d
  pub second : IsEdgeOf b e

-- two lists of edges
pub record HasBothLists (b : Board) (ds es : List Edge) : Type 0 where
  pub first : All (IsEdgeOf b) ds
  pub second : All (IsEdgeOf b) es

-- the covers of each formula before an index that is needed
pub record HaveWaysBelow (b : Board) (index : ℕ) (known : List (Vec Edge Global)) : Type 0 where
  pub ways : HaveWays b known
  pub count : length known ≡ index

-- an edge that is a given cover
pub record MakesEdge (b : Board) (c : Cover) (e : Edge) : Type 0 where
  pub held : IsEdgeOf b e
  pub is : cover_of b e ≡ c

-- covers pruned from products
pub record AreJoined (first second joins : List Cover) : Type 0 where
  pub products : List Cover
  pub each : AreProducts first second products
  pub pruned : ArePruned products joins

-- the products of one cover with some others are added
pub record AddsRow (old new : Board) (edge : Edge) (others joins more : List Edge) : Type 0 where
  pub row : List Edge
  pub is : more ≡ joins ++ row
  pub held : All (IsEdgeOf new) row
  pub products : AreProducts (cover_of old edge ∷ []) (covers_of old others) (covers_of new row)

-- the cover asks for what two others ask for
pub record AsksForBoth (old new : Board) (node : ℕ) (a b e : Edge) : Type 0 where
  pub held : IsEdgeOf new e
  pub guard : e.guard ≡ node
  pub next : (f : NormalFormula) → (Contains (cover_of new e).next f)
      ↔ (Contains (cover_of old a).next f ⊎ Contains (cover_of old b).next f)
  pub postponed : (f : NormalFormula) → (Contains (cover_of new e).postponed f)
      ↔ (Contains (cover_of old a).postponed f ⊎ Contains (cover_of old b).postponed f)

-- two covers serve together at no letter
abbrev pub AreApart : Cover → Cover → Type 0
AreApart a b = (letter : ℕ) → IsTrue (a.guard letter) → IsTrue (b.guard letter) → ⊥

-- the place of a set with these indices
pub record IsPlaceOf (b : Board) (known : Known) (indices : List ℕ) (place : ℕ) : Type 0 where
  pub set : ℕ
  pub there : slice_get known.sets place ≡ Some set
  pub is : indices_in b.sets set ≡ indices
