-- The board, which has the level, the move and the winner of each vertex, and the changes that the steps of the solver
-- make to it.
use Rattle.std.specs.Prelude.{◌≡◌, ℕ, ◌<◌, ◌≤◌, length, slice_index}
use Rattle.ps_game.specs.Games.{ParityGame, vertex_count}
use Rattle.ps_attractor.specs.Tables.{TablesData, FitsGame}
use Rattle.ps_zielonka.specs.declared.board.Board.{Board}
use Rattle.ps_zielonka.specs.Inner.Nests.{IsMoved}

-- the board's tables fit the game, and the list of winners has an entry for each vertex
pub record IsBoardOf {W : Type 0} (game : ParityGame) (board : Board W) : Type 0 where
  pub fits : FitsGame game board.tables
  pub winners : length board.winner.items ≡ vertex_count game

-- the board fits the game, and v is a vertex
pub record IsVertexOn {W : Type 0} (game : ParityGame) (board : Board W) (v : ℕ) : Type 0 where
  pub fits : IsBoardOf game board
  pub vertex : v < vertex_count game

-- in the solver's tables and list of winners (the board), only moves at vertices that satisfy `Some` changed
pub record OnlyMoves {W : Type 0} (game : ParityGame) (old new : Board W) (Some : ℕ → Type 0) : Type 0 where
  pub moved : IsMoved old.tables new.tables Some
  pub winner : new.winner.items ≡ old.winner.items
  pub fits : FitsGame game new.tables

-- the index `turn` is within the trail, every entry of the trail is a vertex, and `limit` is at least the number of
-- vertices
pub record HasTurn (tables : TablesData) (limit turn : ℕ) : Type 0 where
  pub within : turn ≤ length tables.trail
  pub vertices : (j : ℕ) → j < length tables.trail → slice_index tables.trail j < length tables.level
  pub room : length tables.level ≤ limit
