-- What a call gives, while the board grows. It grows also if the call fails. (For private functions.)
use Rattle.std.specs.Prelude.{◌≡◌, ℕ, IfOk, List, Option, Result, Vec}
use Rattle.std.specs.Global.{Global}
use Rattle.ps_diagram.specs.Table.{MakesNode, leaf_of}
use Rattle.ps_formula.specs.NormalForms.{NormalFormula}
use Rattle.ps_tableau.specs.Boards.{AreKnown, Grows, MakesEdges}
use Rattle.ps_tableau.specs.Covers.{AreCoversOf, Cover}
use Rattle.ps_tableau.specs.Inner.Joins.{MakesEdge}
use Rattle.ps_tableau.specs.declared.board.Board.{Board}
use Rattle.ps_tableau.specs.declared.edge.Edge.{Edge}
use Rattle.ps_tableau.specs.declared.known.Known.{Known}

-- a value with a property
pub record Gives {X E : Type 0} (old new : Board) (result : Result X E) (P : X → Type 0) : Type 0 where
  pub grows : Grows old new
  pub made : IfOk result P

-- a node with a property
pub record GivesNode {E : Type 0} (old new : Board) (result : Result ℕ E) (P : ℕ → Type 0) : Type 0 where
  pub grows : Grows old new
  pub node : MakesNode old.guards new.guards result P

-- a diagram, whose leaf at each letter is given
abbrev pub GivesDiagram : {E : Type 0} → Board → Board → Result ℕ E → (ℕ → Option ℕ) → Type 0
GivesDiagram old new result leaf =
    GivesNode old new result (λ node. (letter : ℕ) → leaf_of new.guards node letter ≡ leaf letter)

-- an edge that is a given cover
abbrev pub GivesEdge : {E : Type 0} → Board → Board → Result Edge E → Cover → Type 0
GivesEdge old new result cover = Gives old new result (MakesEdge new cover)

-- edges whose covers have a property
abbrev pub GivesEdges : {E : Type 0} → Board → Board → Result (Vec Edge Global) E → (List Cover → Type 0) → Type 0
GivesEdges old new result P = Gives old new result (λ edges. MakesEdges new P edges.items)

-- edges that are covers of obligations
abbrev pub GivesCovers : {E : Type 0} → Board → Board → Result (Vec Edge Global) E → List NormalFormula → Type 0
GivesCovers old new result obligations = GivesEdges old new result (AreCoversOf obligations)

-- a value with a property, beside covers that are known
pub record GivesKnown {X E : Type 0} (old new : Board) (kept : Known) (result : Result X E) (P : X → Type 0) : Type 0
  where
    pub grows : Grows old new
    pub known : AreKnown new kept
    pub made : IfOk result P
