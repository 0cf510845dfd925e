-- Strategies with memory: finite-memory strategies, and history tables, which choose a move by the whole path so far.
use Rattle.std.specs.Prelude.{◌≡◌, ℕ, ◌+◌, ◌-◌, ◌<◌, ◌≤◌, List, length, fold, take, slice_index}
use Rattle.ps_game.specs.Games.{ParityGame, vertex_count, owner_of, HasEdge}
use Rattle.ps_game.specs.Plays.{IsPath, IsLoop, WinsLoop, other_player}

-- a finite-memory strategy: the number of memory states, the first memory state, and for each memory state and vertex
-- the next memory state and the vertex to move to
pub record FiniteMemory : Type 0 where
  pub size : ℕ
  pub first : ℕ
  pub update : ℕ → ℕ → ℕ
  pub choice : ℕ → ℕ → ℕ

-- all memory states are less than `size`, and at each vertex of the player the strategy chooses a successor
pub record IsFiniteMemory (game : ParityGame) (player : ℕ) (strategy : FiniteMemory) : Type 0 where
  pub first_below : strategy.first < strategy.size
  pub update_below : (memory v : ℕ) → memory < strategy.size → v < vertex_count game →
      strategy.update memory v < strategy.size
  pub moves : (memory v : ℕ) → memory < strategy.size → v < vertex_count game → owner_of game v ≡ player →
      HasEdge game v (strategy.choice memory v)

-- the memory state at position k of a path, after the vertices before this position were visited
abbrev pub memory_at : FiniteMemory → List ℕ → ℕ → ℕ
memory_at strategy path k = fold strategy.update strategy.first (take k path)

-- each move of the player on the path is the strategy's choice in the current memory state
abbrev pub Agrees : ParityGame → ℕ → FiniteMemory → List ℕ → Type 0
Agrees game player strategy path =
    (k : ℕ) → k + 1 < length path → owner_of game (slice_index path k) ≡ player →
    strategy.choice (memory_at strategy path k) (slice_index path k) ≡ slice_index path (k + 1)

-- on each path from v that agrees with the strategy, the player wins each loop that begins and ends in the same memory
-- state
abbrev pub WinsFrom : ParityGame → ℕ → FiniteMemory → ℕ → Type 0
WinsFrom game player strategy v =
    (path : List ℕ) (i j : ℕ) → IsPath game path → slice_index path 0 ≡ v → Agrees game player strategy path →
    IsLoop path i j → memory_at strategy path i ≡ memory_at strategy path j → WinsLoop game player path i j

-- no finite-memory strategy of the player wins from v
abbrev pub WinsByNoMemory : ParityGame → ℕ → ℕ → Type 0
WinsByNoMemory game player v =
    (strategy : FiniteMemory) → IsFiniteMemory game player strategy → WinsFrom game player strategy v → ⊥

-- the last vertex of a path
abbrev pub last_vertex : List ℕ → ℕ
last_vertex path = slice_index path (length path - 1)

-- a history table: for each path of at most n vertices that ends at a vertex of the player, it gives a successor of the
-- path's last vertex
abbrev pub IsHistoryTable : ParityGame → ℕ → ℕ → (List ℕ → ℕ) → Type 0
IsHistoryTable game player n table =
    (path : List ℕ) → IsPath game path → length path ≤ n → owner_of game (last_vertex path) ≡ player →
    HasEdge game (last_vertex path) (table path)

-- each move of the player on the path is what the history table gives for the path up to that point
abbrev pub GoesBy : ParityGame → ℕ → (List ℕ → ℕ) → List ℕ → Type 0
GoesBy game player table path =
    (k : ℕ) → k + 1 < length path → owner_of game (slice_index path k) ≡ player →
    table (take (k + 1) path) ≡ slice_index path (k + 1)

-- a history table is beaten: some path of n + 1 vertices from v follows the table, and the player loses each loop of
-- the path
pub record IsBeaten (game : ParityGame) (player n : ℕ) (table : List ℕ → ℕ) (v : ℕ) : Type 0 where
  pub path : List ℕ
  pub is_path : IsPath game path
  pub begins : slice_index path 0 ≡ v
  pub long : length path ≡ n + 1
  pub goes_by : GoesBy game player table path
  pub loses : (i j : ℕ) → IsLoop path i j → WinsLoop game (other_player player) path i j

-- the path visits some vertex twice
abbrev pub HasLoop : List ℕ → Type 0
HasLoop path = (i : ℕ) × (j : ℕ) × IsLoop path i j

-- each history table of the player for paths of up to n vertices loses on some path of n + 1 vertices from v
-- (`IsBeaten`). If the game has at most n vertices, this path has a loop
abbrev pub AllHistoriesBeaten : ParityGame → ℕ → ℕ → Type 0
AllHistoriesBeaten game player v =
    (n : ℕ) (table : List ℕ → ℕ) → IsHistoryTable game player n table →
    (beaten : IsBeaten game player n table v) × (vertex_count game ≤ n → HasLoop beaten.path)
