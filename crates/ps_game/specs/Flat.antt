-- A game in four arrays: the owner of each vertex, the priority of each vertex, the successors of all vertices in one
-- list, and the offsets. The offsets state where the successors of each vertex begin; one more offset states where the
-- last successors end.
use Rattle.std.specs.Prelude.{◌≡◌, ℕ, ◌+◌, ◌-◌, ◌^◌, ◌<◌, ◌≤◌, min, List, length, map, take, slice_index, slice_range}
use Rattle.std.specs.List.{All, flat_map, range_with_len, sum_by}
use Rattle.ps_game.specs.Games.{VertexData, ParityGame, IsGame, vertex_count}

-- the successors of a vertex: from the vertex's offset up to the next offset
abbrev pub successors_in : List ℕ → List ℕ → ℕ → List ℕ
successors_in offsets successors v = slice_range successors (slice_index offsets v) (slice_index offsets (v + 1))

-- the vertex v of the game that the four arrays represent
abbrev pub vertex_in : List ℕ → List ℕ → List ℕ → List ℕ → ℕ → VertexData
vertex_in offsets successors owners priorities v =
    record {
      owner = slice_index owners v;
      priority = slice_index priorities v;
      successors = successors_in offsets successors v;
    }

-- the game that the four arrays represent
unfoldable pub game_in : List ℕ → List ℕ → List ℕ → List ℕ → ParityGame
game_in offsets successors owners priorities =
    map (vertex_in offsets successors owners priorities) (range_with_len 0 (length owners))

-- the number of edges of a game
abbrev pub edge_count : ParityGame → ℕ
edge_count game = sum_by (λ v. length v.successors) game

-- the numbers of vertices and of edges, each capped at 2 ^ 64 - 1, are at most the limit; a limit of 2 ^ 64 - 1
-- restricts nothing
pub record FitsWithin (game : ParityGame) (limit : ℕ) : Type 0 where
  pub vertices : min (vertex_count game) (2 ^ 64 - 1) ≤ limit
  pub edges : min (edge_count game) (2 ^ 64 - 1) ≤ limit

-- the successors of all vertices, one list after another
abbrev pub all_successors : ParityGame → List ℕ
all_successors game = flat_map (λ v. v.successors) game

-- the entry at index v is the total number of successors of the vertices less than v; the last entry is the total for
-- all vertices
pub record AreOffsets (game : ParityGame) (offsets : List ℕ) : Type 0 where
  pub offset_each : length offsets ≡ length game + 1
  pub in_front : (v : ℕ) → v ≤ length game → slice_index offsets v ≡ length (all_successors (take v game))

-- the four arrays represent the given game
pub record TellGame (game : ParityGame) (offsets successors owners priorities : List ℕ) : Type 0 where
  pub offsets_are : AreOffsets game offsets
  pub successors_are : successors ≡ all_successors game
  pub few : length successors < 2 ^ 64
  pub owners_are : owners ≡ map (λ v. v.owner) game
  pub priorities_are : priorities ≡ map (λ v. v.priority) game

-- the arrays represent vertices that have an owner 0 or 1, and whose successors may be any numbers
pub record AreVertices (offsets successors owners priorities : List ℕ) : Type 0 where
  pub tell : TellGame (game_in offsets successors owners priorities) offsets successors owners priorities
  pub players : All (λ v. v.owner < 2) (game_in offsets successors owners priorities)

-- each vertex has an owner, a priority and an offset; the offsets are ascending and within the array of successors, and
-- the arrays represent a game
pub record AreFlat (offsets successors owners priorities : List ℕ) : Type 0 where
  pub offset_each : length offsets ≡ length owners + 1
  pub priority_each : length priorities ≡ length owners
  pub in_order : (v : ℕ) → v < length owners → slice_index offsets v ≤ slice_index offsets (v + 1)
  pub within : (v : ℕ) → v < length owners → slice_index offsets (v + 1) ≤ length successors
  pub few : length successors < 2 ^ 64
  pub is_game : IsGame (game_in offsets successors owners priorities)
  pub tell : TellGame (game_in offsets successors owners priorities) offsets successors owners priorities
