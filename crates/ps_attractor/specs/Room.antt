-- The condition under which an integer type is large enough for an attractor's tables and for the predecessor lists of
-- a game.
use Rattle.std.specs.Prelude.{ℕ, ◌+◌, ◌*◌, ◌^◌, ◌<◌, ◌≤◌}
use Rattle.ps_game.specs.Games.{ParityGame, vertex_count}
use Rattle.ps_attractor.specs.Graphs.{edges_before}

-- The limit, the largest number of an integer type, fits in 8 bytes. The limit is at least the number of edges, and at
-- least 2n + 4 for n vertices, so that all levels of the solver can be stored
pub record HasRoom (game : ParityGame) (limit : ℕ) : Type 0 where
  pub levels : 2 * vertex_count game + 4 ≤ limit
  pub edges : edges_before game (vertex_count game) ≤ limit
  pub counted : limit < 2 ^ 64
