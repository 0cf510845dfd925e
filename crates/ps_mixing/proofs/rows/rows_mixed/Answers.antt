use Rattle.std.proofs.Common.{subst, sym}
use Rattle.std.specs.List.{All}
use Rattle.ps_hoa.specs.Views.{row_data}
use Rattle.ps_hoa.specs.declared.file.Row.{Row}
use Rattle.ps_mixing.specs.MixedFiles.{IsWithLabel}
use Rattle.ps_mixing.proofs.LabelledEdges.{all_at}
use Rattle.ps_mixing.proofs.rows.rows_mixed.Goals as goal

pub row_mixed-requires-clause-labels : goal.row_mixed-requires-clause-labels
row_mixed-requires-clause-labels c =
    subst (λ (row : Row). All IsWithLabel (row_data row).edges) (sym c.row-item.is) (all_at row_data
    (λ row. All IsWithLabel row.edges) c.args.rows.now c.loop-row.row-index c.row-item.result c.loop-row-test.true
    c.requires.labels)
