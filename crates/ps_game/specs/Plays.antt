-- Paths through a game, their loops, and what it means for a player to hold a set of vertices. A table maps each vertex
-- to a vertex or to None, and a set of vertices is a Boolean function.
use Rattle.std.specs.Prelude.{◌≡◌, ℕ, ◌+◌, ◌-◌, ◌%◌, ◌<◌, max, List, [], ◌∷◌, length, map, Option, Some, IsSomeAnd}
use Rattle.std.specs.Prelude.{Bool, IsTrue, slice_index, slice_range}
use Rattle.ps_game.specs.Games.{ParityGame, vertex_count, owner_of, priority_of, HasEdge}

-- a non-empty list of vertices, in which each vertex after the first is a successor of the one before
pub record IsPath (game : ParityGame) (path : List ℕ) : Type 0 where
  pub begins : 0 < length path
  pub vertices : (k : ℕ) → k < length path → slice_index path k < vertex_count game
  pub edges : (k : ℕ) → k + 1 < length path → HasEdge game (slice_index path k) (slice_index path (k + 1))

-- a loop of the path: the same vertex is at two positions i < j
pub record IsLoop (path : List ℕ) (i j : ℕ) : Type 0 where
  pub rises : i < j
  pub within : j < length path
  pub same : slice_index path i ≡ slice_index path j

-- the largest number of a list, or 0 if the list is empty
abbrev pub greatest : List ℕ → ℕ
greatest [] = 0
greatest (x ∷ xs) = max x (greatest xs)

-- the priority of a loop: the greatest priority at the positions i to j - 1 of the path
unfoldable pub loop_priority : ParityGame → List ℕ → ℕ → ℕ → ℕ
loop_priority game path i j = greatest (map (priority_of game) (slice_range path i j))

-- player 0 wins a loop of even priority, and player 1 wins a loop of odd priority
abbrev pub WinsLoop : ParityGame → ℕ → List ℕ → ℕ → ℕ → Type 0
WinsLoop game player path i j = loop_priority game path i j % 2 ≡ player

-- the opponent of player 0 or 1
abbrev pub other_player : ℕ → ℕ
other_player player = 1 - player

-- at each position before the last one, if the player owns the vertex there, the next vertex is the player's move in
-- the table
abbrev pub Follows : ParityGame → ℕ → (ℕ → Option ℕ) → List ℕ → Type 0
Follows game player table path =
    (k : ℕ) → k + 1 < length path → owner_of game (slice_index path k) ≡ player →
    table (slice_index path k) ≡ Some (slice_index path (k + 1))

-- at each of the player's vertices in the set, the table gives a successor; each path that begins in the set and
-- follows the table stays in the set
pub record KeepsTo (game : ParityGame) (player : ℕ) (set : ℕ → Bool) (table : ℕ → Option ℕ) : Type 0 where
  pub moves : (v : ℕ) → v < vertex_count game → IsTrue (set v) → owner_of game v ≡ player →
      IsSomeAnd (table v) (HasEdge game v)
  pub stays : (path : List ℕ) → IsPath game path → IsTrue (set (slice_index path 0)) → Follows game player table path →
      (k : ℕ) → k < length path → IsTrue (set (slice_index path k))

-- the player holds the set by the table: the player keeps to the set (`KeepsTo`), and wins each loop of each path that
-- begins in the set and follows the table
pub record Holds (game : ParityGame) (player : ℕ) (set : ℕ → Bool) (table : ℕ → Option ℕ) : Type 0 where
  pub keeps : KeepsTo game player set table
  pub wins : (path : List ℕ) (i j : ℕ) → IsPath game path → IsTrue (set (slice_index path 0)) →
      Follows game player table path → IsLoop path i j → WinsLoop game player path i j
