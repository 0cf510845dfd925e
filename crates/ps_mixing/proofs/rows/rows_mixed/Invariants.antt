use Rattle.std.proofs.Common.{◌≡◌, ℕ, map, take}
use Rattle.ps_hoa.specs.Views.{row_data}
use Rattle.ps_mixing.specs.MixedFiles.{mixed_row}
use Rattle.ps_mixing.specs.Orders.{mixing_of}
use Rattle.ps_mixing.proofs.rows.rows_mixed.Given as goal

abbrev pub invariant-loop-row : goal.invariant-loop-row
invariant-loop-row l = (n : ℕ) →
    map row_data l.made.items ≡ map (mixed_row n (mixing_of l.order)) (map row_data (take l.row-index l.rows))
