use Rattle.std.proofs.Common.{subst, sym}
use Rattle.ps_hoa.specs.Views.{edge_data}
use Rattle.ps_hoa.specs.declared.file.Edge.{Edge}
use Rattle.ps_mixing.specs.MixedFiles.{IsWithLabel}
use Rattle.ps_mixing.proofs.LabelledEdges.{all_at}
use Rattle.ps_mixing.proofs.rows.edges_mixed.Goals as goal

pub edge_mixed-requires-clause-label : goal.edge_mixed-requires-clause-label
edge_mixed-requires-clause-label c =
    subst (λ (edge : Edge). IsWithLabel (edge_data edge)) (sym c.edge-item.is) (all_at edge_data IsWithLabel
    c.args.edges.now c.loop-edge.edge-index c.edge-item.result c.loop-edge-test.true c.requires.labels)
