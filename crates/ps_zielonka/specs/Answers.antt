-- The region and the strategies that the solver returns, read off the winner and the move of each vertex.
use Rattle.std.specs.Prelude.{◌≡◌, ℕ, ◌<◌, ◌≤◌, List, Option, Some, None, IsSome, Bool, false, IsTrue, not, slice_index}
use Rattle.std.specs.Prelude.{length}
use Rattle.ps_game.specs.Games.{ParityGame, vertex_count, owner_of}
use Rattle.ps_game.specs.Plays.{Holds}
use Rattle.ps_game.specs.Regions.{has, move_at}

-- the vertices that are not in a region
abbrev pub others : List Bool → ℕ → Bool
others region v = not (has region v)

-- the strategy has moves only at the player's own vertices of the set
pub record MovesWithin (game : ParityGame) (player : ℕ) (set : ℕ → Bool) (strategy : List (Option ℕ)) : Type 0 where
  pub within : (v : ℕ) → IsSome (move_at strategy v) → IsTrue (set v)
  pub owns : (v : ℕ) → IsSome (move_at strategy v) → owner_of game v ≡ player

-- player 0 holds the region by the first strategy, and player 1 holds all other vertices by the second strategy; each
-- strategy has moves only at vertices that its player owns and wins
pub record IsAnswer (game : ParityGame) (region : List Bool) (first second : List (Option ℕ)) : Type 0 where
  pub region_places : length region ≡ vertex_count game
  pub first_places : length first ≡ vertex_count game
  pub second_places : length second ≡ vertex_count game
  pub first_holds : Holds game 0 (has region) (move_at first)
  pub second_holds : Holds game 1 (others region) (move_at second)
  pub first_moves : MovesWithin game 0 (has region) first
  pub second_moves : MovesWithin game 1 (others region) second

-- the set `region` has exactly those vertices less than n that player 0 wins
pub record IsWonRegionTo (winner : List ℕ) (n : ℕ) (region : List Bool) : Type 0 where
  pub won : (v : ℕ) → v < n → IsTrue (has region v) → slice_index winner v ≡ 0
  pub all : (v : ℕ) → v < n → slice_index winner v ≡ 0 → IsTrue (has region v)
  pub later : (v : ℕ) → n ≤ v → has region v ≡ false

-- the player wins and owns the vertex v
pub record MovesAt (game : ParityGame) (winner : List ℕ) (player v : ℕ) : Type 0 where
  pub wins : slice_index winner v ≡ player
  pub owns : owner_of game v ≡ player

-- exactly those vertices less than n that the player wins and owns have a move in the strategy, which is their move in
-- the list `moves`
pub record AreWinningMovesTo (game : ParityGame) (moves winner : List ℕ) (player n : ℕ) (strategy : List (Option ℕ)) :
    Type 0
  where
    pub given : (v : ℕ) → v < n → MovesAt game winner player v → move_at strategy v ≡ Some (slice_index moves v)
    pub only : (v : ℕ) → v < n → ¬ MovesAt game winner player v → move_at strategy v ≡ None
    pub later : (v : ℕ) → n ≤ v → move_at strategy v ≡ None
