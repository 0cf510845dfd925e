-- An attractor computation: the tables with which it starts, and its result, the attractor to the target. At the start,
-- the worklist has exactly the target's vertices from index `aim.begin` on. A vertex with the level `aim.free` is in
-- the subgame and not yet attracted.
use Rattle.std.specs.Prelude.{◌≡◌, ◌≢◌, ℕ, ◌<◌, ◌≤◌, ◌⊎◌, length, drop, Option, Bool, IsTrue, slice_index}
use Rattle.ps_game.specs.Games.{ParityGame, vertex_count}
use Rattle.ps_game.specs.Subgames.{IsWithin, LeadsInto, IsSubgame}
use Rattle.ps_game.specs.Attractors.{IsClosedUnderAttraction, Falls, IsLeastClosed}
use Rattle.ps_attractor.specs.declared.aim.Aim.{Aim}
use Rattle.ps_attractor.specs.Tables.{TablesData, level_of, place_in}

-- v is in the worklist, at index `from` or later
pub record StandsFrom (tables : TablesData) (from v : ℕ) : Type 0 where
  pub place : ℕ
  pub after : from ≤ place
  pub within : place < length tables.trail
  pub is : slice_index tables.trail place ≡ v

-- the subgame consists of the unattracted vertices and the target; from index `aim.begin` on, the worklist has exactly
-- the target's vertices
pub record IsPosed (game : ParityGame) (aim : Aim) (tables : TablesData) (subgame target : ℕ → Bool) : Type 0 where
  pub is_subgame : IsSubgame game subgame
  pub split : (v : ℕ) → IsTrue (subgame v) → (level_of tables v ≡ aim.free) ⊎ IsTrue (target v)
  pub frees : (v : ℕ) → v < vertex_count game → level_of tables v ≡ aim.free → IsTrue (subgame v)
  pub target_within : IsWithin target subgame
  pub target_placed : (v : ℕ) → IsTrue (target v) → level_of tables v ≢ aim.free
  pub target_stands : (v : ℕ) → IsTrue (target v) → StandsFrom tables aim.begin v
  pub only_target : (j : ℕ) → aim.begin ≤ j → j < length tables.trail → IsTrue (target (slice_index tables.trail j))

-- the set consists of the vertices of the subgame that do not have the level `aim.free`
pub record IsSetOfPlaced (aim : Aim) (tables : TablesData) (subgame set : ℕ → Bool) : Type 0 where
  pub within : IsWithin set subgame
  pub placed : (v : ℕ) → IsTrue (set v) → level_of tables v ≢ aim.free
  pub all : (v : ℕ) → IsTrue (subgame v) → level_of tables v ≢ aim.free → IsTrue (set v)

-- v has a successor that is in the subgame but not in the set
pub record StaysOut (game : ParityGame) (subgame set : ℕ → Bool) (v : ℕ) : Type 0 where
  pub to : ℕ
  pub leads : LeadsInto game subgame v to
  pub outside : ¬ IsTrue (set to)

-- The set is the attractor: the least set closed under attraction, with ranks that decrease along the moves of the
-- table. Each vertex of the subgame outside the set has a successor in the subgame outside the set
pub record IsAttracted (game : ParityGame) (subgame : ℕ → Bool) (player : ℕ) (target set : ℕ → Bool)
    (table : ℕ → Option ℕ) (rank : ℕ → ℕ) : Type 0 where
  pub closed : IsClosedUnderAttraction game subgame player target set
  pub falls : Falls game subgame player target set table rank
  pub least : IsLeastClosed game subgame player target set
  pub goes_on : (v : ℕ) → IsTrue (subgame v) → ¬ IsTrue (set v) → StaysOut game subgame set v

-- the level and the move of v are unchanged
pub record IsSameAt (old new : TablesData) (v : ℕ) : Type 0 where
  pub level : level_of new v ≡ level_of old v
  pub move : slice_index new.moves v ≡ slice_index old.moves v

-- v had the level `aim.free`, now has the level `aim.level`, and was appended to the worklist
pub record IsPlaced (aim : Aim) (old new : TablesData) (v : ℕ) : Type 0 where
  pub was_free : level_of old v ≡ aim.free
  pub level : level_of new v ≡ aim.level
  pub stands : StandsFrom new (length old.trail) v

-- each vertex is unchanged or was newly attracted, and exactly the newly attracted vertices were appended to the
-- worklist
pub record IsGrown (aim : Aim) (old new : TablesData) : Type 0 where
  pub longer : length old.trail ≤ length new.trail
  pub front : (j : ℕ) → j < length old.trail → slice_index new.trail j ≡ slice_index old.trail j
  pub each : (v : ℕ) → IsSameAt old new v ⊎ IsPlaced aim old new v
  pub behind : (j : ℕ) → length old.trail ≤ j → j < length new.trail → IsPlaced aim old new (slice_index new.trail j)

-- the index of v in the worklist, counted from index `aim.begin`
abbrev pub rank_of : Aim → TablesData → ℕ → ℕ
rank_of aim tables v = place_in (drop aim.begin tables.trail) v
