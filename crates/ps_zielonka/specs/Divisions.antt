-- A division of a game: player 0 holds a region, and player 1 holds all other vertices, each by a table of moves.
use Rattle.std.specs.Prelude.{◌≡◌, ℕ, ◌<◌, Bool, not, Option}
use Rattle.ps_game.specs.Games.{ParityGame, vertex_count}
use Rattle.ps_game.specs.Plays.{Holds}

pub record Division (game : ParityGame) : Type 0 where
  pub region : ℕ → Bool
  pub others : ℕ → Bool
  pub first : ℕ → Option ℕ
  pub second : ℕ → Option ℕ
  pub first_holds : Holds game 0 region first
  pub second_holds : Holds game 1 others second
  pub apart : (v : ℕ) → v < vertex_count game → others v ≡ not (region v)
