-- Facts that hold while the machine of a certificate is built. A plan has the data from which the machine is made:
-- automaton, keys, certificate, memory states. The diagrams are made one after another; each memory state has a diagram
-- that leads each letter of the other player to a row: a letter to output, and a next memory state. (For private
-- functions.)
-- - `AreUsed game certificate found`: `found` are the reachable vertices
-- - `GoesOn game certificate v w`: a path by the moves of the winner of vertex 0 can continue from v to w
-- - `AreMemories is_first keys used kept anchors`: `kept` has the vertex of each memory state, and `anchors` what each
--   memory state remembers
-- - `IsPlan ..`: the data belong together: keys of an automaton's game, a valid certificate of this game, and the
--   memory states of its machine
-- - `IsDrawn .. v node`: at each letter, the leaf of the diagram `node` is the index of the machine's row for this
--   letter and the memory state of v
-- - `IsReply .. q x r p`: after the first player's letter x at the state q, the second player moves to the state r with
--   the priority p
-- - `IsReplyRow .. q x row`: the machine's row has the right output and next memory state after the letter x at the
--   state q
use Rattle.std.specs.Prelude.{◌≡◌, ◌≢◌, ℕ, ◌+◌, ◌<◌, ◌≤◌, ◌↔◌, ◌==◌, Bool, true, false, List, [], ◌∷◌, length, Some}
use Rattle.std.specs.Prelude.{◌++◌, slice_get, slice_index}
use Rattle.std.specs.List.{All, AllPairs, Contains}
use Rattle.ps_label.specs.Truth.{is_in}
use Rattle.ps_game.specs.Games.{HasEdge, ParityGame}
use Rattle.ps_game.specs.Ranking.{RemainsFor}
use Rattle.ps_certificate.specs.Certificates.{CertificateData, Fits, IsValid, choice_of}
use Rattle.ps_diagram.specs.Table.{Table, IsNode, leaf_of}
use Rattle.ps_automaton.specs.Automata.{AutomatonData}
use Rattle.ps_machine.specs.Boards.{Board, IsFirstLetter, IsSecondLetter, IsGameOf}
use Rattle.ps_machine.specs.BuiltBoards.{board_of}
use Rattle.ps_machine.specs.Extracting.{IsUsed, GoesTo, StandsFor, IsPlayed, IsOtherLetter, is_others}
use Rattle.ps_solver.specs.Solving.{winner_at_start}
use Rattle.ps_machine.specs.Keys.{mover_of}
use Rattle.ps_machine.specs.Numbering.{StandsAt}
use Rattle.ps_machine.specs.declared.key.Key.{Key}
use Rattle.ps_machine.specs.declared.key.Key.TheVariants.{First, Second}
use Rattle.ps_machine.specs.declared.key.Order.{Order}
use Rattle.ps_machine.specs.declared.machine.Row.{Row}

abbrev pub AreUsed : ParityGame → CertificateData → List ℕ → Type 0
AreUsed game certificate found = (v : ℕ) → Contains found v ↔ IsUsed game certificate v

-- a path by the moves of the winner of vertex 0 can continue from v to w
abbrev pub GoesOn : ParityGame → CertificateData → ℕ → ℕ → Type 0
GoesOn game certificate v w = RemainsFor game (winner_at_start certificate) (choice_of certificate) v w

-- all numbers appended to the list have the property `IsNext`, and the list now has every number with this property; if
-- the old list has no number twice, neither has the new list
pub record Adds (IsNext : ℕ → Type 0) (old new : List ℕ) : Type 0 where
  pub added : List ℕ
  pub grown : new ≡ old ++ added
  pub each : All IsNext added
  pub whole : (w : ℕ) → IsNext w → Contains new w
  pub different : AllPairs (λ v w. v ≢ w) old → AllPairs (λ v w. v ≢ w) new

-- ## Memories

-- the anchor of a vertex v, whose state is q: v itself if the machine's player moves first, and otherwise q
abbrev pub anchor_of : Bool → ℕ → ℕ → ℕ
anchor_of true v q = v
anchor_of false v q = q

-- a memory state is added for the vertex v: if no memory state has the anchor (remembers the same), a new one with the
-- vertex v is appended; otherwise nothing changes
pub data KeepsAt (old_kept old_anchors : List ℕ) (v anchor : ℕ) (kept anchors : List ℕ) : Type 0 where
  Stays : Contains old_anchors anchor → kept ≡ old_kept → anchors ≡ old_anchors →
      KeepsAt old_kept old_anchors v anchor kept anchors
  Grows : ¬ Contains old_anchors anchor → kept ≡ old_kept ++ v ∷ [] → anchors ≡ old_anchors ++ anchor ∷ [] →
      KeepsAt old_kept old_anchors v anchor kept anchors

-- the vertex that is kept for the memory state is a reachable vertex, at which the first player moves
pub record IsMemory (is_first : Bool) (keys : List Key) (used kept anchors : List ℕ) (memory : ℕ) : Type 0 where
  pub state : ℕ
  pub priority : ℕ
  pub stands : StandsAt keys (slice_index kept memory) (First state priority)
  pub is_used : Contains used (slice_index kept memory)
  pub anchor : slice_get anchors memory ≡ Some (anchor_of is_first (slice_index kept memory) state)

-- some memory state has this anchor (remembers it), and the vertex that is kept for the memory state is at most v
pub record HasMemory (kept anchors : List ℕ) (v anchor : ℕ) : Type 0 where
  pub memory : ℕ
  pub is_anchored : slice_get anchors memory ≡ Some anchor
  pub behind : slice_index kept memory ≤ v

-- Each reachable vertex of the first player has an anchor, which the machine remembers. Each anchor has one memory
-- state, whose vertex is the smallest reachable first-player vertex with this anchor.
pub record AreMemories (is_first : Bool) (keys : List Key) (used kept anchors : List ℕ) : Type 0 where
  pub many : length anchors ≡ length kept
  pub rising : AllPairs (λ v w. v < w) kept
  pub different : AllPairs (λ one other. one ≢ other) anchors
  pub each : (memory : ℕ) → memory < length kept → IsMemory is_first keys used kept anchors memory
  pub found : (v q p : ℕ) → Contains used v → StandsAt keys v (First q p) →
      HasMemory kept anchors v (anchor_of is_first v q)

-- ## Rows

pub record IsPlan (order : Order) (a : AutomatonData) (keys : List Key) (game : ParityGame)
    (certificate : CertificateData) (is_first : Bool) (kept anchors : List ℕ) : Type 0 where
  pub is_game : IsGameOf (board_of order a) (mover_of order) keys game
  pub fits : Fits game certificate
  pub valid : IsValid game certificate
  pub turn : is_first ≡ (mover_of order == winner_at_start certificate)
  pub used : List ℕ
  pub are_used : AreUsed game certificate used
  pub memories : AreMemories is_first keys used kept anchors

-- y is a letter of the machine's player
abbrev pub IsOwn : Bool → Board → ℕ → Type 0
IsOwn true board y = IsFirstLetter board y
IsOwn false board y = IsSecondLetter board y

-- the row of the machine's table has an existing memory state, and a letter of the machine's player
pub record IsRow (is_first : Bool) (board : Board) (kept : List ℕ) (row : Row) : Type 0 where
  pub memory : row.memory < length kept
  pub letter : IsOwn is_first board row.letter

-- the machine's row has the right output and next memory state for the vertex v, whose state is q, and the other
-- player's letter x
pub record IsRowAt (is_first : Bool) (board : Board) (keys : List Key) (kept : List ℕ) (certificate : CertificateData)
    (v q x : ℕ) (row : Row) : Type 0 where
  pub played : IsPlayed is_first board keys certificate v q x row.letter
  pub entered : ℕ
  pub goes : GoesTo keys board q (x + row.letter) entered
  pub next : StandsFor is_first keys kept row.memory entered (board.auto.next q (x + row.letter))

-- the diagram leads the letter x to the index of the machine's right row for the vertex v, whose state is q
pub record LeadsToRow (is_first : Bool) (board : Board) (keys : List Key) (kept : List ℕ)
    (certificate : CertificateData) (t : Table) (rows : List Row) (node v q x : ℕ) : Type 0 where
  pub leaf : ℕ
  pub is_leaf : leaf_of t node x ≡ Some leaf
  pub row : Row
  pub is_row : slice_get rows leaf ≡ Some row
  pub is_right : IsRowAt is_first board keys kept certificate v q x row

pub record IsDrawn (is_first : Bool) (board : Board) (keys : List Key) (kept : List ℕ) (certificate : CertificateData)
    (t : Table) (rows : List Row) (v node : ℕ) : Type 0 where
  pub held : IsNode t node
  pub state : ℕ
  pub priority : ℕ
  pub stands : StandsAt keys v (First state priority)
  pub leads : (x : ℕ) → IsOtherLetter is_first board x →
      LeadsToRow is_first board keys kept certificate t rows node v state x
  -- the leaf to which the diagram leads a letter depends only on the other player's propositions
  pub heeds : (x y : ℕ) → ((p : ℕ) → p < board.propositions → is_others is_first board p ≡ true → is_in p x ≡ is_in p y)
      → leaf_of t node x ≡ leaf_of t node y

-- every row of the machine's old table has the same index in the new table
pub record KeepsRows (old new : List Row) : Type 0 where
  pub same : (leaf : ℕ) (row : Row) → slice_get old leaf ≡ Some row → slice_get new leaf ≡ Some row

-- some reachable vertex stands for the state q, entered by an edge of priority p
pub record CanEnter (order : Order) (a : AutomatonData) (keys : List Key) (game : ParityGame)
    (certificate : CertificateData) (is_first : Bool) (kept anchors : List ℕ) (q p : ℕ) : Type 0 where
  pub plan : IsPlan order a keys game certificate is_first kept anchors
  pub vertex : ℕ
  pub stands : StandsAt keys vertex (First q p)
  pub is_used : IsUsed game certificate vertex

-- vertex v has a successor that stands for the key k
pub record Leads (keys : List Key) (game : ParityGame) (v : ℕ) (k : Key) : Type 0 where
  pub vertex : ℕ
  pub edge : HasEdge game v vertex
  pub stands : StandsAt keys vertex k

-- ## Diagrams of a player who moves second

-- after the letter x at the state q, the winner's move leads to the state r with the priority p, and some letter of the
-- winner leads there
pub record IsReply (board : Board) (keys : List Key) (certificate : CertificateData) (q x r p : ℕ) : Type 0 where
  pub at : ℕ
  pub stands : StandsAt keys at (Second q x)
  pub chosen : ℕ
  pub choice : choice_of certificate at ≡ Some chosen
  pub entered : StandsAt keys chosen (First r p)
  pub letter : ℕ
  pub second : IsSecondLetter board letter
  pub state : board.auto.next q (x + letter) ≡ r
  pub priority : board.auto.priority q (x + letter) ≡ p

-- the machine's row has the right output and next memory state at each vertex whose state is q, if the first player's
-- letter is x
abbrev pub IsReplyRow : Board → List Key → List ℕ → CertificateData → ℕ → ℕ → Row → Type 0
IsReplyRow board keys kept certificate q x row = (v : ℕ) → IsRowAt false board keys kept certificate v q x row

-- `value` is the index of a row of the machine's table that has the right output and next memory state at the state q,
-- if the first player's letter is x
pub record NamesAnswer (board : Board) (keys : List Key) (kept : List ℕ) (certificate : CertificateData)
    (rows : List Row) (q x value : ℕ) : Type 0 where
  pub row : Row
  pub is_row : slice_get rows value ≡ Some row
  pub is_answer : IsReplyRow board keys kept certificate q x row
