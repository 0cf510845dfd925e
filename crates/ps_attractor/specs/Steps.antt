-- The steps of processing an attractor's worklist, and the invariant of this loop. Only private contracts use these
-- definitions; the public contract of `Tables::attract` uses `IsGrown` and `IsAttracted`.
use Rattle.std.specs.Prelude.{◌≡◌, ◌≢◌, ℕ, ◌<◌, ◌≤◌, ◌⊎◌, List, ◌∷◌, [], ◌++◌, length, slice_index, slice_set, ◌==◌}
use Rattle.std.specs.Prelude.{count_by}
use Rattle.ps_game.specs.Games.{ParityGame, vertex_count, owner_of, HasEdge}
use Rattle.ps_attractor.specs.declared.aim.Aim.{Aim}
use Rattle.ps_attractor.specs.Levels.{IsLevel}
use Rattle.ps_attractor.specs.Tables.{TablesData, FitsGame, level_of}
use Rattle.ps_attractor.specs.Aims.{StandsFrom, IsGrown}

-- the tables have a level and a move for each vertex of the game, the worklist has only vertices of the game, and the
-- tables can store the level `aim.level` of attracted vertices
pub record IsReady (game : ParityGame) (limit : ℕ) (aim : Aim) (tables : TablesData) : Type 0 where
  pub fits : FitsGame game tables
  pub fits_width : IsLevel limit aim.level

-- the tables fit the game, and v is a vertex
pub record HasVertex (game : ParityGame) (tables : TablesData) (v : ℕ) : Type 0 where
  pub fits : FitsGame game tables
  pub vertex : v < vertex_count game

-- the edge from v to the attracted vertex w can be examined: `IsReady` holds for the tables, and v and w are vertices
-- of the game
pub record CanLook (game : ParityGame) (limit : ℕ) (aim : Aim) (tables : TablesData) (v w : ℕ) : Type 0 where
  pub ready : IsReady game limit aim tables
  pub vertex : v < vertex_count game
  pub reached : w < vertex_count game

-- the tables after the vertex v gets the level `level` and is appended to the worklist
abbrev pub with_placed : TablesData → ℕ → ℕ → TablesData
with_placed tables v level =
    record { level = slice_set tables.level v level; moves = tables.moves; trail = tables.trail ++ v ∷ [] }

abbrev pub with_move : TablesData → ℕ → ℕ → TablesData
with_move tables v w = record { level = tables.level; moves = slice_set tables.moves v w; trail = tables.trail }

-- v has a successor with the level `free`, which marks unattracted vertices
pub record HasFree (game : ParityGame) (free : ℕ) (tables : TablesData) (v : ℕ) : Type 0 where
  pub to : ℕ
  pub edge : HasEdge game v to
  pub is_free : level_of tables to ≡ free

-- The result of examining an edge from v to an attracted vertex w. Nothing changes if v does not have the level
-- `aim.free`, or if v belongs to the other player and has an unattracted successor. If v has the level `aim.free` and
-- belongs to the player, v is attracted with the move w. If v has the level `aim.free`, belongs to the other player and
-- has no unattracted successor, v is attracted without a move.
pub data Look (game : ParityGame) (aim : Aim) (old new : TablesData) (v w : ℕ) : Type 0 where
  NotFree : level_of old v ≢ aim.free → new ≡ old → Look game aim old new v w
  Escapes : owner_of game v ≢ aim.player → HasFree game aim.free old v → new ≡ old → Look game aim old new v w
  Own : level_of old v ≡ aim.free → owner_of game v ≡ aim.player → new ≡ with_placed (with_move old v w) v aim.level →
      Look game aim old new v w
  Others : level_of old v ≡ aim.free → owner_of game v ≢ aim.player →
      ((x : ℕ) → HasEdge game v x → level_of old x ≢ aim.free) → new ≡ with_placed old v aim.level →
      Look game aim old new v w

-- v has a successor that is unattracted, or that is in the worklist at index `aim.begin` or later
pub record HasOpenSuccessor (game : ParityGame) (aim : Aim) (tables : TablesData) (v : ℕ) : Type 0 where
  pub to : ℕ
  pub edge : HasEdge game v to
  pub there : (level_of tables to ≡ aim.free) ⊎ StandsFrom tables aim.begin to

-- the edge from v to w is still to be examined: w is in the worklist, and P holds for v and the index of w
pub record IsUnexamined (aim : Aim) (tables : TablesData) (P : ℕ → ℕ → Type 0) (v w : ℕ) : Type 0 where
  pub place : ℕ
  pub after : aim.begin ≤ place
  pub within : place < length tables.trail
  pub is : slice_index tables.trail place ≡ w
  pub pending : P v place

-- v has an unattracted successor, or a successor w such that the edge from v to w is still to be examined
pub record CanGoOn (game : ParityGame) (aim : Aim) (tables : TablesData) (P : ℕ → ℕ → Type 0) (v : ℕ) : Type 0 where
  pub to : ℕ
  pub edge : HasEdge game v to
  pub there : (level_of tables to ≡ aim.free) ⊎ IsUnexamined aim tables P v to

-- v is in the worklist, at index `aim.begin` or later and before index `end`
pub record IsInTrailBefore (aim : Aim) (tables : TablesData) (end v : ℕ) : Type 0 where
  pub place : ℕ
  pub after : aim.begin ≤ place
  pub before : place < end
  pub is : slice_index tables.trail place ≡ v

-- the attracted vertex v leads to earlier vertices of the worklist: by its move if the player owns v, and otherwise by
-- each edge to a vertex that was unattracted or in the worklist when the call began
pub record LeadsBack (game : ParityGame) (aim : Aim) (old new : TablesData) (place v : ℕ) : Type 0 where
  pub own : owner_of game v ≡ aim.player → HasEdge game v (slice_index new.moves v) ×
      IsInTrailBefore aim new place (slice_index new.moves v)
  pub other : owner_of game v ≢ aim.player → (w : ℕ) → HasEdge game v w →
      (level_of old w ≡ aim.free) ⊎ StandsFrom old aim.begin w → IsInTrailBefore aim new place w

-- the invariant of the loop over the worklist: P v j states that the edge from v to the vertex at index j of the
-- worklist may still have to be examined
pub record Reaching (game : ParityGame) (aim : Aim) (old new : TablesData) (P : ℕ → ℕ → Type 0) : Type 0 where
  pub grown : IsGrown aim old new
  pub own : (v j : ℕ) → level_of new v ≡ aim.free → owner_of game v ≡ aim.player → aim.begin ≤ j →
      j < length new.trail → HasEdge game v (slice_index new.trail j) → P v j
  pub other : (v : ℕ) → level_of new v ≡ aim.free → owner_of game v ≢ aim.player → HasOpenSuccessor game aim old v →
      CanGoOn game aim new P v
  pub back : (j : ℕ) → length old.trail ≤ j → j < length new.trail →
      LeadsBack game aim old new j (slice_index new.trail j)

-- all edges to the vertices at index k of the worklist and later are still to be examined
abbrev pub From : ℕ → ℕ → ℕ → Type 0
From k v j = k ≤ j

pub record StandsAmong (list : List ℕ) (from v : ℕ) : Type 0 where
  pub number : ℕ
  pub after : from ≤ number
  pub within : number < length list
  pub is : slice_index list number ≡ v

-- The edges that are still to be examined: all edges to the vertices after index k of the worklist, and, of the edges
-- to the vertex at index k, those from its n-th predecessor on.
abbrev pub FromSource : ℕ → List ℕ → ℕ → ℕ → ℕ → Type 0
FromSource k sources n v j = (k < j) ⊎ ((j ≡ k) × StandsAmong sources n v)

-- the number of unattracted vertices, which have the level `aim.free`
abbrev pub free_count : Aim → TablesData → ℕ
free_count aim tables = count_by (λ level. level == aim.free) tables.level
