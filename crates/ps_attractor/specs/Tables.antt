-- The tables of an attractor computation: a level and a move for each vertex, and the worklist (called trail), which
-- lists the attracted vertices in order.
use Rattle.std.specs.Prelude.{◌≡◌, ℕ, ◌+◌, ◌<◌, List, [], ◌∷◌, length, Option, Some, slice_index, if◌then◌else◌, ◌==◌}
use Rattle.std.specs.List.{All}
use Rattle.ps_game.specs.Games.{ParityGame, vertex_count}

pub record TablesData : Type 0 where
  pub level : List ℕ
  pub moves : List ℕ
  pub trail : List ℕ

-- the tables have a level and a move for each vertex of the game, and every entry of the worklist is a vertex
pub record FitsGame (game : ParityGame) (tables : TablesData) : Type 0 where
  pub levels : length tables.level ≡ vertex_count game
  pub choices : length tables.moves ≡ vertex_count game
  pub vertices : All (λ v. v < vertex_count game) tables.trail

abbrev pub level_of : TablesData → ℕ → ℕ
level_of tables v = slice_index tables.level v

-- the moves of the tables as a function that gives an optional move for each vertex; here it always gives a move, never
-- None
abbrev pub moves_of : TablesData → ℕ → Option ℕ
moves_of tables v = Some (slice_index tables.moves v)

-- the first index of a number in a list, or the length of the list if the number does not occur
abbrev pub place_in : List ℕ → ℕ → ℕ
place_in [] v = 0
place_in (x ∷ xs) v = if x == v then 0 else place_in xs v + 1
