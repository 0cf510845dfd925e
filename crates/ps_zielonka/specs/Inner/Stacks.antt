-- The invariants of the solver between two steps, the effect of a step, and the solution in the tables at the end.
use Rattle.std.specs.Prelude.{◌≡◌, ◌≢◌, ℕ, ◌+◌, ◌≤◌, ◌<◌, List, true, false, length, slice_index}
use Rattle.ps_game.specs.Games.{ParityGame, vertex_count}
use Rattle.ps_attractor.specs.Tables.{TablesData, level_of, moves_of}
use Rattle.ps_zielonka.specs.declared.level.TheConstants.{UNPLACED}
use Rattle.ps_zielonka.specs.declared.nest.Nest.{Nest}
use Rattle.ps_zielonka.specs.Depths.{IsDepth}
use Rattle.ps_zielonka.specs.Inner.Depths.{IsDepthSoFar}
use Rattle.ps_zielonka.specs.Inner.Turns.{Solved}
use Rattle.ps_zielonka.specs.Inner.Nests.{IsNest, from, winner_of, steps_left}

abbrev pub IsStack : {W : Type 0} → ParityGame → Nest W → Type 0
IsStack game nest =
    IsNest game nest.board.tables nest.board.winner.items nest.order nest.frames.items nest.cursor nest.solved

abbrev pub steps_of : {W : Type 0} → Nest W → ℕ
steps_of nest = steps_left nest.board.tables.level (length nest.frames.items) nest.solved

-- the winners and the moves in the tables solve the whole game
pub record IsSolvedBy (game : ParityGame) (tables : TablesData) (winner : List ℕ) : Type 0 where
  pub winners : length winner ≡ vertex_count game
  pub levels : length tables.level ≡ vertex_count game
  pub choices : length tables.moves ≡ vertex_count game
  pub all : (v : ℕ) → v < vertex_count game → 1 ≤ level_of tables v
  pub solved : Solved game (from tables.level 1) (winner_of winner) (moves_of tables)

abbrev pub IsDeep : {W : Type 0} → ParityGame → Nest W → Type 0
IsDeep game nest = IsDepthSoFar game nest.board.tables.level (length nest.frames.items) nest.solved nest.depth

-- the solver has finished: the winners and the moves solve the whole game
pub record IsDone {W : Type 0} (game : ParityGame) (nest : Nest W) : Type 0 where
  pub solved : IsSolvedBy game nest.board.tables nest.board.winner.items
  pub depth : IsDepth game nest.depth

-- the current recursive call is unsolved, and is between two iterations
pub record IsSearching {W : Type 0} (game : ParityGame) (nest : Nest W) : Type 0 where
  pub stack : IsStack game nest
  pub searches : nest.solved ≡ false

-- the current recursive call is solved, and a pending call waits for its result
pub record IsReturning {W : Type 0} (game : ParityGame) (nest : Nest W) : Type 0 where
  pub stack : IsStack game nest
  pub done : nest.solved ≡ true
  pub some : 0 < length nest.frames.items

-- the current call can begin an iteration: it is unsolved, and `cursor` is the first index in the list of vertices by
-- descending priority at which a vertex has the level `UNPLACED`
pub record IsTurnAt {W : Type 0} (game : ParityGame) (nest : Nest W) (cursor : ℕ) : Type 0 where
  pub searching : IsSearching game nest
  pub within : cursor < length nest.order
  pub unplaced : level_of nest.board.tables (slice_index nest.order cursor) ≡ UNPLACED
  pub first : (j : ℕ) → j < cursor → level_of nest.board.tables (slice_index nest.order j) ≢ UNPLACED

-- the last pending call, whose frame was popped from the stack of `old`, is the current call again, and the bound on
-- the remaining steps has decreased
pub record IsResumed {W : Type 0} (game : ParityGame) (old new : Nest W) : Type 0 where
  pub stack : IsStack game new
  pub falls : steps_of new < steps_left old.board.tables.level (length old.frames.items + 1) true
  pub depth : new.depth ≡ old.depth

-- a step of the solver keeps the invariants and decreases the bound on the remaining steps
pub record IsStep {W : Type 0} (game : ParityGame) (old new : Nest W) : Type 0 where
  pub stack : IsStack game new
  pub falls : steps_of new < steps_of old
  pub deep : IsDeep game old → IsDeep game new
