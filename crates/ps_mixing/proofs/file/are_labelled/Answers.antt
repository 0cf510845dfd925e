use Rattle.std.proofs.Common.{ap, arith, refl, subst, sym}
use Rattle.ps_hoa.specs.Views.{edge_data, guard_data}
use Rattle.ps_hoa.specs.declared.file.Edge.{Edge}
use Rattle.ps_mixing.specs.MixedFiles.{IsWithLabel}
use Rattle.ps_mixing.proofs.LabelledEdges.{all_at, all_more, all_of_them, no_letter}
use Rattle.ps_mixing.proofs.file.are_labelled.Goals as goal

abbrev Labelled : Edge → Type 0
Labelled edge = IsWithLabel (edge_data edge)

pub returns-in-Letter : goal.returns-in-Letter
returns-in-Letter c = (
  λ wrong. absurd (cc wrong),
  λ all. absurd (subst Labelled (sym c.edge-item.is) (all_at edge_data IsWithLabel c.args.edges.now
      c.loop-edge.edge-index c.edge-item.result c.loop-edge-test.true all) c.in-Letter.field-0
      (ap guard_data c.in-Letter.is)),
)

pub loop-edge-preserved : goal.loop-edge-preserved
loop-edge-preserved c = all_more edge_data IsWithLabel c.args.edges.now c.loop-edge.edge-index c.edge-item.result
    c.loop-edge-test.true c.loop-edge.invariant (subst Labelled c.edge-item.is
    (no_letter c.edge-item.result.guard c.in_default.not-Letter))

pub returns : goal.returns
returns c = (
  λ yes. all_of_them edge_data IsWithLabel c.args.edges.now c.loop-edge.edge-index (omega arith) c.loop-edge.invariant,
  λ all. refl,
)
