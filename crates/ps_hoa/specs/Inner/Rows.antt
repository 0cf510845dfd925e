-- The abstract value of the stored rows, each of which has the edges of one state.
use Rattle.std.specs.Prelude.{◌≡◌, Some, map}
use Rattle.ps_hoa.specs.Files.{RowData}
use Rattle.ps_hoa.specs.Grammar.Header.{HeaderData}
use Rattle.ps_hoa.specs.Grammar.Body.{BodyData, IsWrongCount, last_row}
use Rattle.ps_hoa.specs.Views.{row_data}
use Rattle.ps_hoa.specs.declared.body.rows.Rows.{Rows}

abbrev pub body_data : Rows → BodyData
body_data r = record { rows = map row_data r.rows.items; edges = r.edges }

-- the last state has implicit labels, but not exactly one edge for each letter
abbrev pub IsEndWrong : HeaderData → BodyData → Type 0
IsEndWrong h body = (row : RowData) × (last_row body ≡ Some row) × IsWrongCount h row
