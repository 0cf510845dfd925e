use Rattle.std.proofs.Common.{map, take}
use Rattle.std.specs.List.{All}
use Rattle.ps_hoa.specs.Views.{row_data}
use Rattle.ps_mixing.specs.MixedFiles.{IsWithLabel}
use Rattle.ps_mixing.proofs.file.have_labels.Given as goal

abbrev pub invariant-loop-row : goal.invariant-loop-row
invariant-loop-row l = All (λ row. All IsWithLabel row.edges) (map row_data (take l.row-index l.rows))
