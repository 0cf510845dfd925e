use Rattle.std.proofs.Common.{◌≡◌, map, drop}
use Rattle.ps_hoa.specs.Files as files
use Rattle.ps_hoa.specs.Views.{row_data}
use Rattle.ps_hoa.proofs.assembly.greatest_state.Given as goal

abbrev pub invariant-loop-row : goal.invariant-loop-row
invariant-loop-row l =
    files.greatest_state l.greatest (map row_data (drop l.row-index l.rows)) ≡ files.greatest_state l.named
    (map row_data l.rows)
