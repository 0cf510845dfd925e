-- The number of distinct priorities of a set, and sets that are closed under attraction for the player who wins by the
-- greatest priority.
use Rattle.std.specs.Prelude.{◌≡◌, ◌↔◌, ℕ, ◌%◌, ◌<◌, ◌≤◌, List, length, Option, Bool, IsTrue, nat_lt}
use Rattle.std.specs.List.{Contains}
use Rattle.ps_game.specs.Games.{ParityGame, vertex_count, priority_of}
use Rattle.ps_game.specs.Attractors.{IsClosedUnderAttraction}
use Rattle.ps_zielonka.specs.Answers.{IsAnswer}

-- the set of all vertices of a game
abbrev pub is_vertex : ParityGame → ℕ → Bool
is_vertex game v = nat_lt v (vertex_count game)

-- the vertices of the set have at least `least` distinct priorities: each list that contains all priorities of these
-- vertices has at least `least` entries
pub record HasPriorities (game : ParityGame) (set : ℕ → Bool) (least : ℕ) : Type 0 where
  pub many : (list : List ℕ) → ((v : ℕ) → IsTrue (set v) → Contains list (priority_of game v)) → least ≤ length list

-- `greatest` is the greatest priority of the game
pub record IsGreatest (game : ParityGame) (greatest : ℕ) : Type 0 where
  pub bounds : (v : ℕ) → v < vertex_count game → priority_of game v ≤ greatest
  pub stands : (v : ℕ) × (v < vertex_count game) × (priority_of game v ≡ greatest)

-- the set contains all vertices of the greatest priority and is closed under attraction for the player who wins by this
-- priority; the least set with both properties is this player's attractor to these vertices
pub record IsClosedToTops (game : ParityGame) (set : ℕ → Bool) : Type 0 where
  pub greatest : ℕ
  pub is_greatest : IsGreatest game greatest
  pub target : ℕ → Bool
  pub is_target : (v : ℕ) → v < vertex_count game → IsTrue (target v) ↔ (priority_of game v ≡ greatest)
  pub closed : IsClosedUnderAttraction game (is_vertex game) (greatest % 2) target set

-- The promised bounds on the maximal depth of calls. The depth is at most the number of distinct priorities, and at
-- least 1 if there is a vertex. The depth is at least 2 if some vertex is outside a set that satisfies `IsClosedToTops`
pub record IsDepth (game : ParityGame) (depth : ℕ) : Type 0 where
  pub most : HasPriorities game (is_vertex game) depth
  pub some : (v : ℕ) → v < vertex_count game → 1 ≤ depth
  pub two : (set : ℕ → Bool) → IsClosedToTops game set → (v : ℕ) → v < vertex_count game → ¬ IsTrue (set v) → 2 ≤ depth

-- the region and both strategies solve the game, and the maximal depth of calls is within its promised bounds
-- (`IsDepth`)
pub record SolvesGame (game : ParityGame) (depth : ℕ) (region : List Bool) (first second : List (Option ℕ)) : Type 0
  where
    pub answer : IsAnswer game region first second
    pub is_depth : IsDepth game depth
