-- The entries of a solution's text, one for each vertex of a game; vertices are numbered from 0.
use Rattle.std.specs.Prelude.{◌≡◌, ℕ, ◌<◌, ◌==◌, if◌then◌else◌, List, length, Option, None, Some, Bool, true, false}
use Rattle.std.specs.Prelude.{IfSome, replicate, slice_set}
use Rattle.std.specs.List.{All}
use Rattle.ps_game.specs.Regions.{has}

-- the entries that were read so far: which vertices have an entry, which of these player 0 wins, and the moves that the
-- entries give
pub record SolvedData : Type 0 where
  pub named : List Bool
  pub won : List Bool
  pub moves : List (Option ℕ)

-- each move is the index of a vertex, so it is less than the number of vertices
abbrev pub AreMoves : ℕ → List (Option ℕ) → Type 0
AreMoves count moves = All (λ choice. IfSome choice (λ v. v < count)) moves

-- the lists `named`, `won` and `moves` have one item for each vertex, and each move is the index of a vertex
pub record AreTables (s : SolvedData) : Type 0 where
  pub won_each : length s.won ≡ length s.named
  pub move_each : length s.moves ≡ length s.named
  pub moves : AreMoves (length s.named) s.moves

-- the state before any entry is read, for a game with `n` vertices
abbrev pub none_solved : ℕ → SolvedData
none_solved n = record { named = replicate n false; won = replicate n false; moves = replicate n None }

abbrev pub with_win : List Bool → ℕ → ℕ → List Bool
with_win won v winner = if winner == 0 then slice_set won v true else won

abbrev pub with_move : List (Option ℕ) → ℕ → Option ℕ → List (Option ℕ)
with_move moves v None = moves
with_move moves v (Some w) = slice_set moves v (Some w)

-- the entries after one more was read, which states who wins vertex `v`, and by which move
abbrev pub with_entry : SolvedData → ℕ → ℕ → Option ℕ → SolvedData
with_entry s v winner choice = record {
  named = slice_set s.named v true;
  won = with_win s.won v winner;
  moves = with_move s.moves v choice;
}

-- the entries that were read include one for each vertex
abbrev pub IsFilled : SolvedData → Type 0
IsFilled s = (v : ℕ) → v < length s.named → has s.named v ≡ true

-- a solution: the vertices that player 0 wins, and a move or none for each vertex; player 1 wins all other vertices
pub record SolutionData : Type 0 where
  pub won : List Bool
  pub moves : List (Option ℕ)

abbrev pub solution_of : SolvedData → SolutionData
solution_of s = record { won = s.won; moves = s.moves }
