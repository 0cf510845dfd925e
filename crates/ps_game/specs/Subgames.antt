-- Subgames, and what it means for a player to hold a set of vertices within a subgame. A set of vertices is a Boolean
-- function, and a table maps each vertex to a vertex or to None.
use Rattle.std.specs.Prelude.{◌≡◌, ◌≢◌, ℕ, ◌+◌, ◌%◌, ◌<◌, ◌≤◌, Option, Some, IsSomeAnd, Bool, IsTrue}
use Rattle.ps_game.specs.Games.{ParityGame, vertex_count, owner_of, priority_of, HasEdge}

-- each vertex of `small` is in `large`
abbrev pub IsWithin : (ℕ → Bool) → (ℕ → Bool) → Type 0
IsWithin small large = (v : ℕ) → IsTrue (small v) → IsTrue (large v)

-- an edge leads from v to w, which is in the set
pub record LeadsInto (game : ParityGame) (set : ℕ → Bool) (v w : ℕ) : Type 0 where
  pub edge : HasEdge game v w
  pub inside : IsTrue (set w)

-- a subgame is a set of vertices of the game, each of which has a successor in the set
pub record IsSubgame (game : ParityGame) (set : ℕ → Bool) : Type 0 where
  pub vertices : (v : ℕ) → IsTrue (set v) → v < vertex_count game
  pub goes_on : (v : ℕ) → IsTrue (set v) → (w : ℕ) × LeadsInto game set v w

-- a round: a cycle of k > 0 edges between vertices of the set, on which the player moves by the table
pub record IsRound (game : ParityGame) (player : ℕ) (set : ℕ → Bool) (table : ℕ → Option ℕ) (walk : ℕ → ℕ)
    (k : ℕ) : Type 0 where
  pub some : 0 < k
  pub closes : walk k ≡ walk 0
  pub inside : (t : ℕ) → t < k → IsTrue (set (walk t))
  pub edges : (t : ℕ) → t < k → HasEdge game (walk t) (walk (t + 1))
  pub follows : (t : ℕ) → t < k → owner_of game (walk t) ≡ player → table (walk t) ≡ Some (walk (t + 1))

-- `top` is the greatest priority of the first k vertices of the walk
pub record IsTop (game : ParityGame) (walk : ℕ → ℕ) (k top : ℕ) : Type 0 where
  pub bounds : (t : ℕ) → t < k → priority_of game (walk t) ≤ top
  pub stands : (t : ℕ) × (t < k) × (priority_of game (walk t) ≡ top)

-- The set is within the subgame. At each of the player's vertices of the set, the table gives a successor in the set.
-- The other player's edges within the subgame do not leave the set. If a cycle lies within the set, and the player's
-- moves on this cycle are those of the table, the player wins the cycle (`IsRound`)
pub record HoldsWithin (game : ParityGame) (subgame : ℕ → Bool) (player : ℕ) (set : ℕ → Bool)
    (table : ℕ → Option ℕ) : Type 0 where
  pub within : IsWithin set subgame
  pub moves : (v : ℕ) → IsTrue (set v) → owner_of game v ≡ player → IsSomeAnd (table v) (LeadsInto game set v)
  pub stays : (v w : ℕ) → IsTrue (set v) → owner_of game v ≢ player → LeadsInto game subgame v w → IsTrue (set w)
  pub wins : (walk : ℕ → ℕ) (k top : ℕ) → IsRound game player set table walk k → IsTop game walk k top →
      top % 2 ≡ player
