-- The pending recursive calls of the solver, expressed by one number for each vertex: the code of its level
-- (`code_of`). A call of depth k, counted from 0, solves the vertices with a code of 2k + 1 or more. In a call of depth
-- k, the vertices with the code 2k + 1 are decided, and those with the code 2k + 2 were attracted in the call's current
-- iteration. The vertices with a code above 2k + 2 are left to the next recursive call. Vertices that no call has
-- decided or attracted have the largest code, `UNPLACED`.
use Rattle.std.specs.Prelude.{◌≡◌, ◌≢◌, ℕ, zero, suc, ◌+◌, ◌*◌, ◌%◌, ◌^◌, ◌<◌, ◌≤◌, ◌⊎◌, Bool, true, false, IsTrue}
use Rattle.std.specs.Prelude.{cond}
use Rattle.std.specs.Prelude.{List, [], ◌∷◌, length, slice_index, slice_index_or, nat_le}
use Rattle.std.specs.List.{All, Contains}
use Rattle.ps_game.specs.Games.{ParityGame, IsGame, vertex_count, owner_of, priority_of, HasEdge}
use Rattle.ps_game.specs.Subgames.{IsSubgame}
use Rattle.ps_attractor.specs.declared.aim.Aim.{Aim}
use Rattle.ps_attractor.specs.Tables.{TablesData, FitsGame, level_of, moves_of}
use Rattle.ps_attractor.specs.Aims.{StandsFrom, IsGrown, IsPlaced}
use Rattle.ps_zielonka.specs.declared.level.TheConstants.{UNPLACED}
use Rattle.ps_zielonka.specs.declared.frame.Frame.{Frame}
use Rattle.ps_zielonka.specs.Inner.Turns.{Progress, Solved, IsTurned}

-- the set of the vertices whose level is c or higher
unfoldable pub from : List ℕ → ℕ → ℕ → Bool
from levels c v = nat_le c (slice_index levels v)

-- the number of vertices whose level is c or higher
abbrev pub size_from : ℕ → List ℕ → ℕ
size_from c [] = 0
size_from c (level ∷ levels) = cond (nat_le c level) 1 0 + size_from c levels

-- the winner of a vertex, according to a list of winners
abbrev pub winner_of : List ℕ → ℕ → ℕ
winner_of winner v = slice_index winner v

-- the list `order` has all vertices of the game, by descending priority
pub record IsOrder (game : ParityGame) (order : List ℕ) : Type 0 where
  pub vertices : (j : ℕ) → j < length order → slice_index order j < vertex_count game
  pub all : (v : ℕ) → v < vertex_count game → (j : ℕ) × (j < length order) × (slice_index order j ≡ v)
  pub falls : (i j : ℕ) → i ≤ j → j < length order → priority_of game (slice_index order j) ≤ priority_of game
      (slice_index order i)

-- the vertices before index `cursor` in the list of vertices by descending priority have levels less than c
pub record IsCursor (order levels : List ℕ) (cursor c : ℕ) : Type 0 where
  pub within : cursor ≤ length order
  pub below : (j : ℕ) → j < cursor → slice_index levels (slice_index order j) < c

-- the vertices of level c or higher, except those with the level `UNPLACED`, are exactly those in the trail from index
-- m on
pub record IsSegment (tables : TablesData) (m c : ℕ) : Type 0 where
  pub within : m ≤ length tables.trail
  pub above : (j : ℕ) → m ≤ j → j < length tables.trail → c ≤ level_of tables (slice_index tables.trail j)
  pub stands : (v : ℕ) → c ≤ level_of tables v → level_of tables v < UNPLACED → StandsFrom tables m v

-- v is in the trail, at index `from` or later and before index `to`
pub record StandsBetween (tables : TablesData) (from to v : ℕ) : Type 0 where
  pub place : ℕ
  pub after : from ≤ place
  pub before : place < to
  pub is : slice_index tables.trail place ≡ v

-- for an even number a, the call of depth a / 2 is pending: it waits for the result of the next recursive call
pub record Waits (game : ParityGame) (tables : TablesData) (winner order : List ℕ) (a : ℕ) (frame : Frame) : Type 0
  where
    pub alive : IsSubgame game (from tables.level (a + 2))
    pub progress : Progress game (from tables.level (a + 1)) (from tables.level (a + 2)) (winner_of winner)
        (moves_of tables)
    pub prepared : IsTurned game (from tables.level (a + 2)) (from tables.level (a + 3)) frame.player (winner_of winner)
        (moves_of tables)
    pub room : a + 2 * size_from (a + 1) tables.level ≤ 2 * length tables.level
    pub segment : IsSegment tables frame.turn (a + 2)
    pub some : frame.turn ≤ frame.top
    pub end : frame.top ≤ length tables.trail
    pub tops : (v : ℕ) → IsTrue (prepared.tops v) → StandsBetween tables frame.turn frame.top v
    pub only_tops : (v : ℕ) → StandsBetween tables frame.turn frame.top v → IsTrue (prepared.tops v)
    pub front : IsCursor order tables.level frame.cursor (a + 2)

-- the call of depth a / 2 is the current one and is between two iterations: each of its undecided vertices has the
-- level `UNPLACED`
pub record Searches (game : ParityGame) (tables : TablesData) (winner order : List ℕ) (a cursor : ℕ) : Type 0 where
  pub alive : IsSubgame game (from tables.level (a + 2))
  pub progress : Progress game (from tables.level (a + 1)) (from tables.level (a + 2)) (winner_of winner)
      (moves_of tables)
  pub room : a + 2 * size_from (a + 1) tables.level ≤ 2 * length tables.level
  pub unplaced : (v : ℕ) → a + 2 ≤ level_of tables v → level_of tables v ≡ UNPLACED
  pub front : IsCursor order tables.level cursor (a + 2)

-- the call of depth a / 2 is solved, and no vertex of the game has the level `UNPLACED`
pub record HasAnswer (game : ParityGame) (tables : TablesData) (winner : List ℕ) (a : ℕ) : Type 0 where
  pub solved : Solved game (from tables.level (a + 1)) (winner_of winner) (moves_of tables)
  pub placed : (v : ℕ) → level_of tables v < UNPLACED

-- the frame on the solver's stack for the pending call of depth i
abbrev pub frame_at : List Frame → ℕ → Frame
frame_at frames i = slice_index_or frames i (record { cursor = 0; player = 0; turn = 0; top = 0 })

-- the invariants of the board, which has the level, the move and the winner of each vertex
pub record IsSoundBoard (game : ParityGame) (tables : TablesData) (winner order : List ℕ) : Type 0 where
  pub is_game : IsGame game
  pub fits : FitsGame game tables
  pub winners : length winner ≡ vertex_count game
  pub is_order : IsOrder game order
  pub high : 2 * vertex_count game + 4 ≤ UNPLACED
  pub levels : (v : ℕ) → v < vertex_count game → 1 ≤ level_of tables v
  pub most : (v : ℕ) → level_of tables v ≤ UNPLACED

-- the state of the solver: the calls on the stack are pending, and the current call is between two iterations or is
-- solved
pub record IsNest (game : ParityGame) (tables : TablesData) (winner order : List ℕ) (frames : List Frame) (cursor : ℕ)
    (solved : Bool) : Type 0 where
  pub sound : IsSoundBoard game tables winner order
  pub waits : (i : ℕ) → i < length frames → Waits game tables winner order (2 * i) (frame_at frames i)
  pub rises : (i j : ℕ) → i < j → j < length frames → (frame_at frames i).top ≤ (frame_at frames j).turn
  pub searches : solved ≡ false → Searches game tables winner order (2 * length frames) cursor
  pub done : solved ≡ true → HasAnswer game tables winner (2 * length frames)

-- ## An upper bound on the number of remaining steps, from the number of open vertices in each call

abbrev pub steps : ℕ → ℕ
steps zero = 1
steps (suc m) = 2 + (steps m + steps m)

abbrev pub rest_of : ℕ → ℕ
rest_of zero = 1
rest_of (suc m) = 1 + steps m

-- what the first k pending calls contribute to the bound on the remaining steps
abbrev pub waiting_steps : List ℕ → ℕ → ℕ
waiting_steps levels zero = 0
waiting_steps levels (suc k) = waiting_steps levels k + rest_of (size_from (2 * k + 2) levels)

abbrev pub steps_left : List ℕ → ℕ → Bool → ℕ
steps_left levels k solved = waiting_steps levels k + cond solved 0 (steps (size_from (2 * k + 2) levels))

-- ## The parts of a step

-- v is an entry of the list at an index less than `end`
pub record StandsBefore (list : List ℕ) (end v : ℕ) : Type 0 where
  pub place : ℕ
  pub before : place < end
  pub is : slice_index list place ≡ v

-- The vertex v may be a top, which is a target vertex of an iteration's attractor. The vertex v is before index
-- `behind` of `order`. The priority of v has the same parity as the priority of the vertex at index `cursor` of
-- `order`, and equals that priority if `just_greatest` is true
pub record IsTop (game : ParityGame) (order : List ℕ) (cursor behind : ℕ) (just_greatest : Bool) (v : ℕ) : Type 0 where
  pub stands : StandsBefore order behind v
  pub parity : priority_of game v % 2 ≡ priority_of game (slice_index order cursor) % 2
  pub just : just_greatest ≡ true → priority_of game v ≡ priority_of game (slice_index order cursor)

-- The tops, the target of an iteration's attractor, were placed in the trail: all undecided vertices of the list
-- `order` from index `cursor` up to `behind`. Each top has the greatest priority or, unless `just_greatest` is true, a
-- priority of the same parity
pub record ArePlaced (game : ParityGame) (aim : Aim) (old new : TablesData) (order : List ℕ) (cursor behind : ℕ)
    (just_greatest : Bool) : Type 0 where
  pub grown : IsGrown aim old new
  pub after : cursor ≤ behind
  pub within : behind ≤ length order
  pub tops : (v : ℕ) → IsPlaced aim old new v → IsTop game order cursor behind just_greatest v
  pub all : (j : ℕ) → cursor ≤ j → j < behind → level_of new (slice_index order j) ≢ aim.free

-- the player was recorded as the winner of all vertices of the trail from index `begin` on, and the winners of all
-- other vertices are unchanged
pub record IsGiven (player begin : ℕ) (tables : TablesData) (old new : List ℕ) : Type 0 where
  pub given : (v : ℕ) → StandsFrom tables begin v → slice_index new v ≡ player
  pub kept : (v : ℕ) → (slice_index new v ≡ slice_index old v) ⊎ StandsFrom tables begin v

-- an edge leads from v to w, which has a higher level than `level` and is won by the player
pub record IsWonStep (game : ParityGame) (tables : TablesData) (winner : List ℕ) (level player v w : ℕ) : Type 0 where
  pub edge : HasEdge game v w
  pub above : level < level_of tables w
  pub won : slice_index winner w ≡ player

-- The player keeps a vertex v of its own if the move at v leads to a vertex of a higher level than `level` that the
-- player won. The player keeps a vertex v of the opponent if no edge leads from v to a vertex of a higher level than
-- `level` that the opponent won.
pub record IsKeptAt (game : ParityGame) (tables : TablesData) (winner : List ℕ) (level player other v : ℕ) : Type 0
  where
    pub own : owner_of game v ≡ player → IsWonStep game tables winner level player v (slice_index tables.moves v)
    pub foreign : owner_of game v ≢ player → (w : ℕ) → HasEdge game v w → level < level_of tables w →
        slice_index winner w ≢ other

-- The player can't keep a vertex v of its own if no edge leads from v to a vertex of a higher level than `level` that
-- the player won. The player can't keep a vertex v of the opponent if an edge leads from v to a vertex of a higher
-- level than `level` that the opponent won.
pub record IsLostAt (game : ParityGame) (tables : TablesData) (winner : List ℕ) (level player other v : ℕ) : Type 0
  where
    pub own : owner_of game v ≡ player → (w : ℕ) → HasEdge game v w → level < level_of tables w →
        slice_index winner w ≢ player
    pub foreign : owner_of game v ≢ player → (w : ℕ) × IsWonStep game tables winner level other v w

-- nothing changed in the tables except the moves at vertices with the property `Some`
pub record IsMoved (old new : TablesData) (Some : ℕ → Type 0) : Type 0 where
  pub level : new.level ≡ old.level
  pub trail : new.trail ≡ old.trail
  pub choices : length new.moves ≡ length old.moves
  pub moves : (v : ℕ) → (slice_index new.moves v ≡ slice_index old.moves v) ⊎ Some v

-- the list `spare` has the vertices that were in the trail from index `turn` on, in order
pub record IsTakenOff (turn : ℕ) (trail spare : List ℕ) : Type 0 where
  pub all : length spare + turn ≡ length trail
  pub same : (j : ℕ) → j < length spare → slice_index spare j ≡ slice_index trail (turn + j)

-- The vertices that satisfy `Off` and were won by the player have the level `UNPLACED` again. The vertices that satisfy
-- `Off` and were not won by the player have the given level, and exactly these are in the trail from index `turn` on.
pub record IsReopened (winner : List ℕ) (player level turn : ℕ) (Off : ℕ → Type 0) (old new : TablesData) : Type 0 where
  pub longer : turn ≤ length new.trail
  pub front : (j : ℕ) → j < turn → slice_index new.trail j ≡ slice_index old.trail j
  pub behind : (j : ℕ) → turn ≤ j → j < length new.trail → Off (slice_index new.trail j) ×
      (slice_index winner (slice_index new.trail j) ≢ player)
  pub lost : (v : ℕ) → Off v → slice_index winner v ≢ player → (level_of new v ≡ level) × StandsFrom new turn v
  pub freed : (v : ℕ) → Off v → slice_index winner v ≡ player → level_of new v ≡ UNPLACED
  pub same : (v : ℕ) → (level_of new v ≡ level_of old v) ⊎ Off v
  pub moves : new.moves ≡ old.moves
  pub sizes : length new.level ≡ length old.level

-- the list has a pair for each vertex less than n: a number that decreases as the vertex's priority increases, and the
-- vertex
pub record AreRanked (game : ParityGame) (n : ℕ) (ranked : List (ℕ × ℕ)) : Type 0 where
  pub each : All (λ pair. (pair.1 < n) × (pair.0 + priority_of game pair.1 + 1 ≡ 2 ^ 64)) ranked
  pub stands : (v : ℕ) → v < n → (rank : ℕ) × Contains ranked (rank, v)
