use Rattle.std.proofs.Common.{◌∙◌, List, arith, refl, subst, sym, map}
use Rattle.std.specs.List.{All}
use Rattle.ps_hoa.specs.Files.{RowData}
use Rattle.ps_hoa.specs.Views.{edge_data, row_data}
use Rattle.ps_hoa.specs.declared.file.Edge.{Edge}
use Rattle.ps_hoa.specs.declared.file.Row.{Row}
use Rattle.ps_mixing.specs.MixedFiles.{IsWithLabel}
use Rattle.ps_mixing.proofs.LabelledEdges.{all_at, all_more, all_of_them}
use Rattle.ps_mixing.proofs.file.have_labels.Goals as goal

abbrev Labelled : RowData → Type 0
Labelled row = All IsWithLabel row.edges

abbrev AreLabelled : List Edge → Type 0
AreLabelled edges = All IsWithLabel (map edge_data edges)

pub returns-then-not-are_labelled : goal.returns-then-not-are_labelled
returns-then-not-are_labelled c = (
  λ wrong. absurd (cc wrong),
  λ all.
      let here = subst (λ (row : Row). Labelled (row_data row)) (sym c.row-item.is) (all_at row_data Labelled
      c.args.rows.now c.loop-row.row-index c.row-item.result c.loop-row-test.true all) in
      let yes = c.are_labelled.ensures.1 (subst AreLabelled (sym c.deref.ensures.value) here) in
      absurd (cc (sym yes ∙ c.if-not-are_labelled.true)),
)

pub loop-row-preserved : goal.loop-row-preserved
loop-row-preserved c =
    let here = subst AreLabelled c.deref.ensures.value (c.are_labelled.ensures.0 c.if-not-are_labelled.false) in
    all_more row_data Labelled c.args.rows.now c.loop-row.row-index c.row-item.result c.loop-row-test.true
    c.loop-row.invariant (subst (λ (row : Row). Labelled (row_data row)) c.row-item.is here)

pub returns : goal.returns
returns c = (
  λ yes. all_of_them row_data Labelled c.args.rows.now c.loop-row.row-index (omega arith) c.loop-row.invariant,
  λ all. refl,
)
