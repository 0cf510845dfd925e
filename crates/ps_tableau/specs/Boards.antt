-- The edges of a tableau as covers. A board has a table of formulas, the sets of them that were met, and diagrams.
use Rattle.std.specs.Prelude.{◌≡◌, ◌↔◌, ℕ, All, Contains, List, [], ◌∷◌, Some}
use Rattle.std.specs.Prelude.{Vec, is_some, length, map, slice_get}
use Rattle.std.specs.Global.{Global}
use Rattle.ps_diagram.specs.Table.{IsNode, Keeps, leaf_of}
use Rattle.ps_formula.specs.Formulas.{Formula}
use Rattle.ps_formula.specs.NormalForms.{IsNormalTable, NormalFormula, normal_formula_at}
use Rattle.ps_formula.specs.Satisfaction.{IsDecidedWord, Satisfies}
use Rattle.ps_tableau.specs.Covers.{AreCoversOf, Cover, SatisfiesAll}
use Rattle.ps_tableau.specs.Needs.{AreUntils, IsNeeded, NeedsAll}
use Rattle.ps_tableau.specs.Sets.{AreSets, KeepsSets, IsSet, indices_in}
use Rattle.ps_tableau.specs.declared.board.Board.{Board}
use Rattle.ps_tableau.specs.declared.edge.Edge.{Edge}
use Rattle.ps_tableau.specs.declared.known.Known.{Known}

-- ## Sets and edges

-- the formulas of a set
abbrev pub formulas_in : Board → ℕ → List NormalFormula
formulas_in b set = map (normal_formula_at b.formulas) (indices_in b.sets set)

-- the cover that an edge is
abbrev pub cover_of : Board → Edge → Cover
cover_of b e = record {
  guard = λ letter. is_some (leaf_of b.guards e.guard letter);
  next = formulas_in b e.next;
  postponed = formulas_in b e.postponed;
}

abbrev pub covers_of : Board → List Edge → List Cover
covers_of b edges = map (cover_of b) edges

-- a set of formulas whose indices have a property
pub record IsSetOf (P : ℕ → Type 0) (b : Board) (set : ℕ) : Type 0 where
  pub held : IsSet b.sets set
  pub each : (k : ℕ) → Contains (indices_in b.sets set) k → P k

-- the obligations of a state of the tableau
abbrev pub IsState : Board → ℕ → Type 0
IsState b set = IsSetOf (IsNeeded b.needed.items) b set

pub record IsEdgeOf (b : Board) (e : Edge) : Type 0 where
  pub guard : IsNode b.guards e.guard
  pub next : IsState b e.next
  pub postponed : IsSetOf (Contains b.untils.items) b e.postponed

-- ## Boards

pub record IsBoard (b : Board) : Type 0 where
  pub table : IsNormalTable b.formulas
  pub needs : NeedsAll b.formulas b.needed.items
  pub untils : AreUntils b.formulas b.needed.items b.untils.items
  pub sets : AreSets b.sets
  pub propositions : b.guards.propositions ≡ 64

-- a board keeps its formulas, and each old set and diagram
pub record Grows (old new : Board) : Type 0 where
  pub formulas : new.formulas ≡ old.formulas
  pub needed : new.needed.items ≡ old.needed.items
  pub untils : new.untils.items ≡ old.untils.items
  pub initial : new.initial ≡ old.initial
  pub sets : KeepsSets old.sets new.sets
  pub sound : AreSets new.sets
  pub guards : Keeps old.guards new.guards

-- ## What calls make

-- edges whose covers have a property
pub record MakesEdges (b : Board) (P : List Cover → Type 0) (edges : List Edge) : Type 0 where
  pub held : All (IsEdgeOf b) edges
  pub right : P (covers_of b edges)

-- edges that are covers of obligations
abbrev pub HasCovers : Board → List NormalFormula → List Edge → Type 0
HasCovers b obligations edges = MakesEdges b (AreCoversOf obligations) edges

-- the covers of each formula that is needed
pub record HaveWays (b : Board) (ways : List (Vec Edge Global)) : Type 0 where
  pub each : (k : ℕ) (covers : Vec Edge Global) → slice_get ways k ≡ Some covers → IsNeeded b.needed.items k →
      HasCovers b (normal_formula_at b.formulas k ∷ []) covers.items

-- a board with the covers of each of its formulas that is needed
pub record IsRight (b : Board) (known : List (Vec Edge Global)) : Type 0 where
  pub ways : HaveWays b known
  pub count : length known ≡ length b.formulas
  pub initial : IsState b b.initial

-- the covers of sets of formulas, each in the place of its set
pub record AreKnown (b : Board) (known : Known) : Type 0 where
  pub count : length known.sets ≡ length known.covers.items
  pub held : (place set : ℕ) → slice_get known.sets place ≡ Some set → IsSet b.sets set
  pub each : (place set : ℕ) (covers : Vec Edge Global) → slice_get known.sets place ≡ Some set →
      slice_get known.covers.items place ≡ Some covers → HasCovers b (formulas_in b set) covers.items

-- the edges from a state: its covers
abbrev pub AreEdgesOf : Board → ℕ → List Edge → Type 0
AreEdgesOf b state edges = HasCovers b (formulas_in b state) edges

-- the first state is satisfied where a formula is, along each word along which formulas are true or false
pub record IsTableauOf (b : Board) (f : Formula) : Type 0 where
  pub initial : IsState b b.initial
  pub same : (w : ℕ → ℕ) (i : ℕ) → IsDecidedWord w →
      (SatisfiesAll (formulas_in b b.initial) w i) ↔ (Satisfies f w i)
