-- Paths from vertex 0 to a given vertex. For each vertex, the list `firsts` has the first vertex that has an edge to
-- it, if this vertex is smaller, and otherwise the vertex itself.
-- - `HasLowered game v count old new`: `new` is the list `old`, where the entries of the first `count` successors of v
--   are lowered to v, if they were larger
-- - `AreFirsts game n firsts`: the entry of w is w or a vertex with an edge to w, and is at most each vertex less than
--   n that has an edge to w
-- - `IsWayBy firsts way v`: `way` leads from vertex 0 to v, and the vertex before each vertex of `way` is the entry of
--   that vertex in `firsts`
-- - `IsWayTo game way v`: `way` is a path from vertex 0 to v
use Rattle.std.specs.Prelude.{◌≡◌, ℕ, ◌+◌, ◌<◌, ◌≤◌, ◌⊎◌, List, length, slice_index}
use Rattle.ps_game.specs.Games.{ParityGame, HasEdge, successors_of, vertex_count}
use Rattle.ps_game.specs.Plays.{IsPath}
use Rattle.ps_game.specs.Strategies.{last_vertex}

pub record HasLowered (game : ParityGame) (v count : ℕ) (old new : List ℕ) : Type 0 where
  pub each : length new ≡ length old
  pub lower : (w : ℕ) → slice_index new w ≤ slice_index old w
  pub here : (k : ℕ) → k < count → slice_index new (slice_index (successors_of game v) k) ≤ v
  pub sound : (w : ℕ) → (slice_index new w ≡ slice_index old w) ⊎ ((slice_index new w ≡ v) × HasEdge game v w)

pub record AreFirsts (game : ParityGame) (n : ℕ) (firsts : List ℕ) : Type 0 where
  pub each : length firsts ≡ vertex_count game
  pub least : (v w : ℕ) → v < n → HasEdge game v w → slice_index firsts w ≤ v
  pub sound : (w : ℕ) → w < vertex_count game →
      (slice_index firsts w ≡ w) ⊎ HasEdge game (slice_index firsts w) w

-- in `firsts`, the entry of each vertex except 0 is a smaller vertex
abbrev pub Fall : List ℕ → Type 0
Fall firsts = (w : ℕ) → 0 < w → w < length firsts → slice_index firsts w < w

pub record IsWayBy (firsts : List ℕ) (way : List ℕ) (v : ℕ) : Type 0 where
  pub begins : 0 < length way
  pub from : slice_index way 0 ≡ 0
  pub ends : last_vertex way ≡ v
  pub vertices : (k : ℕ) → k < length way → slice_index way k < length firsts
  pub steps : (k : ℕ) → k + 1 < length way →
      (0 < slice_index way (k + 1)) × (slice_index firsts (slice_index way (k + 1)) ≡ slice_index way k)

pub record IsWayTo (game : ParityGame) (way : List ℕ) (v : ℕ) : Type 0 where
  pub is_path : IsPath game way
  pub from : slice_index way 0 ≡ 0
  pub ends : last_vertex way ≡ v

-- `way` leads from the vertex v to the vertex `first`: in `firsts`, the entry of each vertex of `way` except the last
-- is the next vertex of `way`
pub record IsWayBack (firsts : List ℕ) (way : List ℕ) (v first : ℕ) : Type 0 where
  pub begins : 0 < length way
  pub from : slice_index way 0 ≡ v
  pub ends : last_vertex way ≡ first
  pub vertices : (k : ℕ) → k < length way → slice_index way k < length firsts
  pub steps : (k : ℕ) → k + 1 < length way →
      (0 < slice_index way k) × (slice_index firsts (slice_index way k) ≡ slice_index way (k + 1))
