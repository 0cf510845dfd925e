-- The region, the moves and the ranks of an attractor, as they are read from the tables once the worklist is processed.
use Rattle.std.specs.Prelude.{◌≡◌, ℕ, ◌<◌, ◌≤◌, List, length, Option, Some, None, IsSome, Bool, false, IsTrue}
use Rattle.std.specs.Prelude.{slice_index}
use Rattle.ps_game.specs.Games.{ParityGame, owner_of, vertex_count}
use Rattle.ps_game.specs.Subgames.{IsWithin, IsSubgame}
use Rattle.ps_game.specs.Attractors.{IsClosedUnderAttraction, Falls, IsLeastClosed}
use Rattle.ps_game.specs.Regions.{has, move_at}
use Rattle.ps_attractor.specs.declared.attractor.TheConstants.{OUTSIDE, PLACED, FREE}
use Rattle.ps_attractor.specs.declared.aim.Aim.{Aim}
use Rattle.ps_attractor.specs.declared.attractor.Attracted.{Attracted}
use Rattle.ps_attractor.specs.Tables.{TablesData, FitsGame, level_of, moves_of, place_in}
use Rattle.ps_attractor.specs.Aims.{IsAttracted, IsGrown, IsSetOfPlaced, StandsFrom, rank_of}

-- the target is contained in the subgame, and both sets are lists with one entry for each vertex
pub record IsGoal (game : ParityGame) (subgame target : List Bool) : Type 0 where
  pub is_subgame : IsSubgame game (has subgame)
  pub target_within : IsWithin (has target) (has subgame)
  pub subgame_places : length subgame ≡ vertex_count game
  pub target_places : length target ≡ vertex_count game

-- each vertex less than n has its initial level, and the worklist has exactly the target's vertices less than n
pub record AreLaidOut (subgame target : List Bool) (n : ℕ) (tables : TablesData) : Type 0 where
  pub targets : (v : ℕ) → v < n → IsTrue (has target v) → level_of tables v ≡ PLACED
  pub frees : (v : ℕ) → v < n → has target v ≡ false → IsTrue (has subgame v) → level_of tables v ≡ FREE
  pub outside : (v : ℕ) → v < n → has target v ≡ false → has subgame v ≡ false → level_of tables v ≡ OUTSIDE
  pub later : (v : ℕ) → n ≤ v → level_of tables v ≡ OUTSIDE
  pub stands : (v : ℕ) → v < n → IsTrue (has target v) → StandsFrom tables 0 v
  pub only : (j : ℕ) → j < length tables.trail → IsTrue (has target (slice_index tables.trail j))
  pub before : (j : ℕ) → j < length tables.trail → slice_index tables.trail j < n

-- the parameters of an attractor computation for the player; the target's vertices begin at the front of the worklist
abbrev pub aim_of : ℕ → Aim
aim_of player = record { player = player; begin = 0; level = PLACED; free = FREE }

-- the worklist of the tables first had only the target's vertices, and was then extended by the other vertices of the
-- attractor
pub record AreAttracted (game : ParityGame) (player : ℕ) (subgame target : List Bool) (tables : TablesData) : Type 0
  where
    pub old : TablesData
    pub laid : AreLaidOut subgame target (vertex_count game) old
    pub grown : IsGrown (aim_of player) old tables
    pub attracted : (set : ℕ → Bool) → IsSetOfPlaced (aim_of player) tables (has subgame) set
        → IsAttracted game (has subgame) player (has target) set (moves_of tables) (rank_of (aim_of player) tables)

-- the set `region` has exactly those vertices less than n that have the level `PLACED`, which marks the target and the
-- attracted vertices
pub record IsRegionTo (tables : TablesData) (n : ℕ) (region : List Bool) : Type 0 where
  pub placed : (v : ℕ) → v < n → IsTrue (has region v) → level_of tables v ≡ PLACED
  pub all : (v : ℕ) → v < n → level_of tables v ≡ PLACED → IsTrue (has region v)
  pub later : (v : ℕ) → n ≤ v → has region v ≡ false

-- the result can be read from the tables: the tables fit the game, and the target is a list with one entry for each
-- vertex
pub record AreReadable (game : ParityGame) (tables : TablesData) (target : List Bool) : Type 0 where
  pub fits : FitsGame game tables
  pub target_places : length target ≡ vertex_count game

-- v belongs to the player, was attracted, and is not in the target
pub record Moves (game : ParityGame) (tables : TablesData) (player : ℕ) (target : List Bool) (v : ℕ) : Type 0 where
  pub placed : level_of tables v ≡ PLACED
  pub owns : owner_of game v ≡ player
  pub outside : has target v ≡ false

-- A vertex less than n has a move in the list `moves` exactly if it satisfies `Moves`: it was attracted, belongs to the
-- player and is not in the target. The move in the list `moves` is the move that the tables have for the vertex.
pub record AreMovesTo (game : ParityGame) (tables : TablesData) (player : ℕ) (target : List Bool) (n : ℕ)
    (moves : List (Option ℕ)) : Type 0 where
  pub given : (v : ℕ) → v < n → Moves game tables player target v → move_at moves v ≡ Some (slice_index tables.moves v)
  pub only : (v : ℕ) → v < n → ¬ Moves game tables player target v → move_at moves v ≡ None
  pub later : (v : ℕ) → n ≤ v → move_at moves v ≡ None

-- the rank of the vertex v in a list of ranks
abbrev pub rank_at : List ℕ → ℕ → ℕ
rank_at rank v = slice_index rank v

-- the region, the moves and the ranks of the result are those that the attractor's tables record
pub record IsReadOff (game : ParityGame) (tables : TablesData) (player : ℕ) (target : List Bool)
    (a : Attracted) : Type 0
  where
    pub places : length a.region ≡ vertex_count game
    pub move_places : length a.moves ≡ vertex_count game
    pub rank_places : length a.rank.items ≡ vertex_count game
    pub region : IsRegionTo tables (vertex_count game) a.region
    pub moves : AreMovesTo game tables player target (vertex_count game) a.moves
    pub ranks : (v : ℕ) → StandsFrom tables 0 v → rank_at a.rank.items v ≡ place_in tables.trail v

-- the result is the player's attractor to the target within the subgame, with its moves and ranks
pub record IsAttractor (game : ParityGame) (player : ℕ) (subgame target : List Bool) (a : Attracted) : Type 0 where
  pub places : length a.region ≡ vertex_count game
  pub move_places : length a.moves ≡ vertex_count game
  pub rank_places : length a.rank.items ≡ vertex_count game
  pub within : IsWithin (has a.region) (has subgame)
  pub closed : IsClosedUnderAttraction game (has subgame) player (has target) (has a.region)
  pub least : IsLeastClosed game (has subgame) player (has target) (has a.region)
  pub moves : (v : ℕ) → IsSome (move_at a.moves v) →
      IsTrue (has a.region v) × (owner_of game v ≡ player) × (has target v ≡ false)
  pub falls : Falls game (has subgame) player (has target) (has a.region) (move_at a.moves) (rank_at a.rank.items)
