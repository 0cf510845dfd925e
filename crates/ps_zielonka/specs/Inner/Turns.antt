-- The iterations (turns) by which a recursive call solves its subgame. Sets of vertices are Boolean functions. `win`
-- maps each vertex to the player who wins it. `table` maps each vertex to its move, which is the vertex to which the
-- owner moves, or to None.
use Rattle.std.specs.Prelude.{◌≡◌, ◌≢◌, ℕ, ◌%◌, ◌<◌, ◌≤◌, Option, Bool, false, IsTrue}
use Rattle.ps_game.specs.Games.{ParityGame, owner_of, priority_of, HasEdge}
use Rattle.ps_game.specs.Subgames.{IsWithin, HoldsWithin}
use Rattle.ps_game.specs.Attractors.{IsClosedUnderAttraction, Falls}

-- the empty set
abbrev pub nothing : ℕ → Bool
nothing v = false

-- `rest` has exactly the vertices of `whole` that are not in `part`
pub record IsWithout (whole part rest : ℕ → Bool) : Type 0 where
  pub within : IsWithin rest whole
  pub outside : (v : ℕ) → IsTrue (rest v) → ¬ IsTrue (part v)
  pub all : (v : ℕ) → IsTrue (whole v) → ¬ IsTrue (part v) → IsTrue (rest v)

-- the set has exactly those vertices of the subgame that are decided (outside the undecided part `open_part`) and won
-- by the player
pub record IsWon (subgame open_part : ℕ → Bool) (win : ℕ → ℕ) (player : ℕ) (set : ℕ → Bool) : Type 0 where
  pub within : IsWithin set subgame
  pub decided : (v : ℕ) → IsTrue (set v) → ¬ IsTrue (open_part v)
  pub won : (v : ℕ) → IsTrue (set v) → win v ≡ player
  pub all : (v : ℕ) → IsTrue (subgame v) → ¬ IsTrue (open_part v) → win v ≡ player → IsTrue (set v)

-- the decisions so far about a subgame: each player holds the decided vertices that it wins, and no undecided vertex
-- has an edge to a decided vertex that is won by the undecided vertex's owner
pub record Progress (game : ParityGame) (subgame open_part : ℕ → Bool) (win : ℕ → ℕ) (table : ℕ → Option ℕ) : Type 0
  where
    pub within : IsWithin open_part subgame
    pub winners : (v : ℕ) → IsTrue (subgame v) → ¬ IsTrue (open_part v) → win v < 2
    pub away : (v w : ℕ) → IsTrue (open_part v) → HasEdge game v w → IsTrue (subgame w) → ¬ IsTrue (open_part w) →
        owner_of game v ≢ win w
    pub held : (player : ℕ) (set : ℕ → Bool) → player < 2 → IsWon subgame open_part win player set →
        HoldsWithin game subgame player set table

-- each vertex of the subgame is won by a player, and each player holds the vertices that it wins
abbrev pub Solved : ParityGame → (ℕ → Bool) → (ℕ → ℕ) → (ℕ → Option ℕ) → Type 0
Solved game subgame win table = Progress game subgame nothing win table

-- an iteration is prepared: in the undecided part, the player who wins by the greatest priority has attracted vertices
-- to target vertices, the tops, and the other vertices are still to be solved. The tops include all vertices of the
-- greatest priority. The priority of each top has the player's parity, and is greater than all priorities of the other
-- parity in the undecided part
pub record IsTurned (game : ParityGame) (open_part rest : ℕ → Bool) (player : ℕ) (win : ℕ → ℕ)
    (table : ℕ → Option ℕ) : Type 0 where
  pub greatest : ℕ
  pub tops : ℕ → Bool
  pub attracted : ℕ → Bool
  pub rank : ℕ → ℕ
  pub parity : greatest % 2 ≡ player
  pub most : (v : ℕ) → IsTrue (open_part v) → priority_of game v ≤ greatest
  pub top : (v : ℕ) → IsTrue (tops v) → priority_of game v % 2 ≡ player
  pub above : (v w : ℕ) → IsTrue (tops v) → IsTrue (open_part w) → priority_of game w % 2 ≢ player →
      priority_of game w < priority_of game v
  pub all_top : (v : ℕ) → IsTrue (open_part v) → priority_of game v ≡ greatest → IsTrue (tops v)
  pub some_top : (v : ℕ) × IsTrue (tops v) × (priority_of game v ≡ greatest)
  pub within : IsWithin attracted open_part
  pub left : IsWithout open_part attracted rest
  pub closed : IsClosedUnderAttraction game open_part player tops attracted
  pub falls : Falls game open_part player tops attracted table rank
  pub given : (v : ℕ) → IsTrue (attracted v) → win v ≡ player
