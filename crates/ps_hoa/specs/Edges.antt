-- The edges of an automaton: the letters at which an edge is taken, and the sets of the edge.
-- - `row_of file q`: the row of the state q, which is what the text states about q, if there is one
-- - `IsTaken file row edge letter`: the edge of a state's row is taken at the letter
-- - `is_marked row edge set`: the edge of a state's row is in the acceptance set
-- - `Goes file q letter marks next`: at the letter, an edge with the sets `marks` leads from q to `next`
--
-- A letter is a number whose bit i is proposition i.
use Rattle.std.specs.Prelude.{◌≡◌, ℕ, ◌^◌, ◌<◌, ◌||◌, Bool, IsTrue, List, [], ◌∷◌, length, nat_eq, if◌then◌else◌}
use Rattle.std.specs.Prelude.{Option, None, Some, slice_get}
use Rattle.ps_label.specs.Expression.{Expression}
use Rattle.ps_label.specs.Truth.{label_truth}
use Rattle.ps_hoa.specs.Files.{GuardData, EdgeData, RowData, FileData, stated, of_state, at_letter, is_among}

abbrev pub row_among : List RowData → ℕ → Option RowData
row_among [] q = None
row_among (row ∷ rows) q = if nat_eq q row.state then Some row else row_among rows q

-- the row of a state; a state without a row has no edges
abbrev pub row_of : FileData → ℕ → Option RowData
row_of file q = row_among file.rows q

-- The guard of an edge tells which letters enable the edge: those at which its own label is true, those at which its
-- state's label is true, or a single letter.
abbrev pub IsEnabled : List Expression → Option Expression → GuardData → ℕ → Type 0
IsEnabled aliases label (stated e) letter = IsTrue (label_truth aliases letter e)
IsEnabled aliases None of_state letter = ⊥
IsEnabled aliases (Some e) of_state letter = IsTrue (label_truth aliases letter e)
IsEnabled aliases label (at_letter k) letter = letter ≡ k

abbrev pub IsTaken : FileData → RowData → EdgeData → ℕ → Type 0
IsTaken file row edge letter = IsEnabled file.aliases row.label edge.guard letter

-- an edge is in the acceptance sets that it names and in those of its state
abbrev pub is_marked : RowData → EdgeData → ℕ → Bool
is_marked row edge set = is_among set row.marks || is_among set edge.marks

-- An edge of the state q is taken at the letter and leads to the state `next`. `marks` tells for each acceptance set
-- whether the edge is in it, so the order and repetitions of sets in the text do not matter.
pub record Goes (file : FileData) (q letter : ℕ) (marks : ℕ → Bool) (next : ℕ) : Type 0 where
  pub is_letter : letter < 2 ^ length file.names
  pub row : RowData
  pub of_state : row_of file q ≡ Some row
  pub place : ℕ
  pub edge : EdgeData
  pub at_place : slice_get row.edges place ≡ Some edge
  pub taken : IsTaken file row edge letter
  pub marked : (set : ℕ) → marks set ≡ is_marked row edge set
  pub target : edge.target ≡ next
