-- A certificate stores its entries as a list of winners and a list of values of type `Line`. A `Line` has the move of a
-- vertex, and refers to the range of a shared list that has the vertex's nonzero counts. (For private fields.)
use Rattle.std.specs.Prelude.{◌≡◌, ℕ, ◌+◌, ◌≤◌, List, length, map}
use Rattle.std.specs.List.{All, slice_range, zip}
use Rattle.ps_certificate.specs.Certificates.{EntryData}
use Rattle.ps_certificate.specs.Sparse.{dense_row, IsRow}
use Rattle.ps_certificate.specs.declared.entries.Line.{Line}
use Rattle.ps_game.specs.declared.nonzero.NonzeroCount.{NonzeroCount}

-- the index at which the range of the shared list ends to which a `Line` refers
abbrev pub end_of : Line → ℕ
end_of line = line.start + line.count

-- the range of the shared list to which a `Line` refers: the nonzero counts of one vertex
abbrev pub part_of : List NonzeroCount → Line → List NonzeroCount
part_of placed line = slice_range placed line.start (end_of line)

-- the certificate's entry for a vertex, which is stored as a winner and a `Line`
abbrev pub entry_in : List NonzeroCount → ℕ × Line → EntryData
entry_in placed p =
    record { winner = p.0; choice = p.1.choice; counts = dense_row p.1.width (part_of placed p.1) }

abbrev pub entries_in : List ℕ → List Line → List NonzeroCount → List EntryData
entries_in winners lines placed = map (entry_in placed) (zip winners lines)

-- the `Line` refers to a range of the shared list in which the indices of the counts ascend
pub record IsRowWithin (placed : List NonzeroCount) (line : Line) : Type 0 where
  pub rises : line.start ≤ end_of line
  pub ends : end_of line ≤ length placed
  pub row : IsRow line.width (part_of placed line)

-- there is a winner for each `Line`, and each `Line` refers to a range of the shared list in which the indices of the
-- counts ascend
pub record AreLines (winners : List ℕ) (lines : List Line) (placed : List NonzeroCount) : Type 0 where
  pub each : length winners ≡ length lines
  pub within : All (IsRowWithin placed) lines
