-- The entries of the certificate that is built from the winners and moves of a solution and from rows of counts.
use Rattle.std.specs.Prelude.{ℕ, if◌then◌else◌, List, [], map, Option, Some, None, Bool, slice_get}
use Rattle.std.specs.List.{range_with_len}
use Rattle.ps_game.specs.Games.{ParityGame}
use Rattle.ps_game.specs.Regions.{has}
use Rattle.ps_certificate.specs.Certificates.{EntryData}
use Rattle.ps_referee.specs.Solutions.{claim_with}

abbrev pub row_in : Option (List ℕ) → List ℕ
row_in None = []
row_in (Some row) = row

-- the row of counts of a vertex
abbrev pub row_at : List (List ℕ) → ℕ → List ℕ
row_at rows v = row_in (slice_get rows v)

-- the table of the player who is claimed to win a vertex
abbrev pub winner_rows : List Bool → List (List ℕ) → List (List ℕ) → ℕ → List (List ℕ)
winner_rows won first_rows second_rows v = if has won v then first_rows else second_rows

-- the row of counts of a vertex, from the table of the player who is claimed to win the vertex
abbrev pub winner_row : List Bool → List (List ℕ) → List (List ℕ) → ℕ → List ℕ
winner_row won first_rows second_rows v = row_at (winner_rows won first_rows second_rows v) v

-- the certificate's entries for the first n vertices: each has the vertex's claimed winner, move and counts
unfoldable pub claims : ParityGame → List Bool → List (Option ℕ) → List (Option ℕ) → (ℕ → List ℕ) → ℕ → List EntryData
claims game won first second counts n =
    map (λ v. claim_with game won first second v (counts v)) (range_with_len 0 n)
