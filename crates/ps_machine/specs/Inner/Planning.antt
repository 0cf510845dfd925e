-- Conditions on a `Plan`, and on the diagrams that are made from it. Most definitions here are definitions of other
-- files, such as `Drawing` and `Placing`, with fields of the `Plan` as arguments. (For private functions.)
-- - `IsPlanned plan`: the machine can be made from the plan
-- - `AreDividedBy plan divided`: `divided` has the classes of letters of each state at which the first player moves
-- - `AreKnownBy plan divided`: if `divided` is there, `AreDividedBy` holds
-- - `CanDraw plan t classes drawing v q`: the diagram of the memory state of the vertex v, whose state has these classes,
--   can be added to the `Drawing`, which has the machine's diagrams and rows so far
-- - `CanDivide plan mask t drawing v`: the same, after dividing the letters of the vertex's state in the store t
-- - `Draws plan old new v result`: a call changes the `Drawing` from `old` to `new`, which keeps all diagrams and rows;
--   the call returns the diagram of the memory state of the vertex v, or fails
use Rattle.std.specs.Prelude.{◌≡◌, ℕ, nat_eq, false, IfOk, List, Option, Result, length}
use Rattle.std.specs.List.{All, Contains}
use Rattle.indexmap.specs.IndexMap.{get}
use Rattle.ps_diagram.specs.Table.{Keeps, Table}
use Rattle.ps_diagram.specs.declared.classes.Classes.{Classes}
use Rattle.ps_machine.specs.Inner.Assembling.{AreDrawn}
use Rattle.ps_machine.specs.Boards.{Board, IsClassLetter}
use Rattle.ps_machine.specs.BuiltBoards.{board_of}
use Rattle.ps_machine.specs.Dividing.{AreClassesOf, AreDivided, AreKnown, IsFit}
use Rattle.ps_machine.specs.Inner.Drawing.{CanEnter, IsReplyRow, IsDrawn, IsPlan, IsRow, KeepsRows, Leads, NamesAnswer}
use Rattle.ps_machine.specs.Inner.Moving.{IsRest}
use Rattle.ps_machine.specs.Inner.Placing.{IsEntered, IsPlaced}
use Rattle.ps_machine.specs.Numbering.{StandsAt}
use Rattle.ps_machine.specs.declared.divided.Divided.{Divided}
use Rattle.ps_machine.specs.declared.drawing.Drawing.{Drawing}
use Rattle.ps_machine.specs.declared.drawing.Plan.{Plan}
use Rattle.ps_machine.specs.declared.key.Key.{Key}
use Rattle.ps_machine.specs.declared.key.Key.TheVariants.{First}
use Rattle.ps_machine.specs.declared.machine.Row.{Row}

abbrev pub board_by : Plan → Board
board_by p = board_of p.order p.automaton.now

abbrev pub IsPlanned : Plan → Type 0
IsPlanned p =
    IsPlan p.order p.automaton.now p.keys.now p.game.now p.certificate.now p.moves_first p.memories.now.kept.items
    p.memories.now.anchors.keys

abbrev pub AreDividedBy : Plan → Divided → Type 0
AreDividedBy p d = AreDivided p.order p.automaton.now p.keys.now d.store (get nat_eq d.classes)

abbrev pub AreKnownBy : Plan → Option Divided → Type 0
AreKnownBy p = AreKnown p.order p.automaton.now p.keys.now

-- the relation that holds for a state and a priority if some reachable vertex stands for this state, entered by an edge
-- of this priority
abbrev pub CanEnterBy : Plan → ℕ → ℕ → Type 0
CanEnterBy p =
    CanEnter p.order p.automaton.now p.keys.now p.game.now p.certificate.now p.moves_first p.memories.now.kept.items
    p.memories.now.anchors.keys

abbrev pub LeadsBy : Plan → ℕ → Key → Type 0
LeadsBy p = Leads p.keys.now p.game.now

abbrev pub IsEnteredBy : Plan → ℕ → Type 0
IsEnteredBy p =
    IsEntered p.order p.automaton.now p.keys.now p.game.now p.certificate.now p.moves_first p.memories.now.kept.items
    p.memories.now.anchors.keys

-- the diagram of the steps from the state q after the letter x of the first player
abbrev pub IsRestBy : Plan → Table → ℕ → ℕ → ℕ → Type 0
IsRestBy p t q x rest =
    (mask : ℕ) × IsFit p.order p.automaton.now mask t × IsRest p.order p.automaton.now mask t q x rest

abbrev pub AreRowsBy : Plan → List Row → Type 0
AreRowsBy p = All (IsRow p.moves_first (board_by p) p.memories.now.kept.items)

abbrev pub IsPlacedBy : Plan → List Row → List ℕ → ℕ → ℕ → Type 0
IsPlacedBy p = IsPlaced p.automaton.now p.keys.now p.moves_first p.memories.now.kept.items

abbrev pub IsDrawnBy : Plan → Table → List Row → ℕ → ℕ → Type 0
IsDrawnBy p = IsDrawn p.moves_first (board_by p) p.keys.now p.memories.now.kept.items p.certificate.now

abbrev pub AreDrawnBy : Plan → Table → List Row → List ℕ → ℕ → Type 0
AreDrawnBy p = AreDrawn p.moves_first (board_by p) p.keys.now p.memories.now.kept.items p.certificate.now

abbrev pub IsAnswerBy : Plan → ℕ → ℕ → Row → Type 0
IsAnswerBy p = IsReplyRow (board_by p) p.keys.now p.memories.now.kept.items p.certificate.now

abbrev pub NamesAnswerBy : Plan → List Row → ℕ → ℕ → ℕ → Type 0
NamesAnswerBy p = NamesAnswer (board_by p) p.keys.now p.memories.now.kept.items p.certificate.now

-- ## What functions that draw require, and what they give

-- the vertex v of a memory state stands for the state q; `c` are the classes of q, and their diagrams are in the table t
pub record CanDraw (p : Plan) (t : Table) (c : Classes) (drawing : Drawing) (v q : ℕ) : Type 0 where
  pub plan : IsPlanned p
  pub kept : Contains p.memories.now.kept.items v
  pub stands : (priority : ℕ) × StandsAt p.keys.now v (First q priority)
  pub mask : ℕ
  pub fit : IsFit p.order p.automaton.now mask t
  pub classes : AreClassesOf p.automaton.now mask t q c
  pub letters : drawing.store.propositions ≡ length p.automaton.now.names
  pub rows : AreRowsBy p drawing.rows.keys

pub record CanDivide (p : Plan) (mask : ℕ) (t : Table) (drawing : Drawing) (v : ℕ) : Type 0 where
  pub plan : IsPlanned p
  pub kept : Contains p.memories.now.kept.items v
  pub fit : IsFit p.order p.automaton.now mask t
  pub letters : drawing.store.propositions ≡ length p.automaton.now.names
  pub rows : AreRowsBy p drawing.rows.keys

-- the machine's player moves second, the vertex v and some reachable vertex stand for the state q, and x is the least
-- letter of its class at q
pub record CanReply (p : Plan) (v q x : ℕ) : Type 0 where
  pub turn : p.moves_first ≡ false
  pub entered : (priority : ℕ) × CanEnterBy p q priority
  pub stands : (priority : ℕ) × StandsAt p.keys.now v (First q priority)
  pub class : IsClassLetter (board_by p) q x

-- a call adds no diagrams; each earlier row keeps its index, and each row has an existing memory state and a letter of
-- the machine's player
pub record AddsRows (p : Plan) (old new : Drawing) : Type 0 where
  pub store : new.store ≡ old.store
  pub same_rows : KeepsRows old.rows.keys new.rows.keys
  pub rows : AreRowsBy p new.rows.keys

pub record Draws {E : Type 0} (p : Plan) (old new : Drawing) (v : ℕ) (result : Result ℕ E) : Type 0 where
  pub keeps : Keeps old.store new.store
  pub same_rows : KeepsRows old.rows.keys new.rows.keys
  pub rows : AreRowsBy p new.rows.keys
  pub drawn : IfOk result (IsDrawnBy p new.store new.rows.keys v)
