-- The row of a state is at the index that the table of indices has for the state.
use Rattle.std.proofs.Common.{arith}
use Rattle.std.proofs.lemmas.Option.{slice_get-map}
use Rattle.ps_hoa.proofs.Reading.RowTable.{row_at}
use Rattle.ps_hoa.proofs.body.rows.Rows.of_state.Goals as goal

pub returns-in_err-place : goal.returns-in_err-place
returns-in_err-place c = grind (arith, row_at)

pub returns : goal.returns
returns c = grind (arith, slice_get-map, row_at)
