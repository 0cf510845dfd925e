use Rattle.std.proofs.Common.{arith}
use Rattle.ps_hoa.proofs.Reading.RowTable.{has_place_row}
use Rattle.ps_hoa.proofs.body.rows.Rows.has.Goals as goal

pub returns : goal.returns
returns c = grind (arith, has_place_row)
