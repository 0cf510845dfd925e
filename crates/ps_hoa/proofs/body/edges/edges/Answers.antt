use Rattle.std.proofs.Common.{◌≡◌, List, ap, arith, map, sym, ◌∙◌}
use Rattle.ps_hoa.specs.Inner.Ahead.{begins_edge}
use Rattle.ps_hoa.specs.Grammar.Header.{header_data}
use Rattle.ps_hoa.specs.Views.{edge_data, row_data}
use Rattle.ps_hoa.specs.declared.file.Edge.{Edge}
use Rattle.ps_hoa.proofs.Grammar.OperandLaws.{false_true}
use Rattle.ps_hoa.proofs.Reading.BodyReading.{edge_begins}
use Rattle.ps_hoa.proofs.Reading.HoaExits.{exit, loop_more, loop_fails, loop_ends, loop_shrinks, value_is}
use Rattle.ps_hoa.proofs.Reading.ExpectReading.{avoids_kind}
use Rattle.ps_hoa.proofs.Reading.StateReading.{edge_loop}
use Rattle.ps_hoa.proofs.body.edges.edges.Goals as goal

pub more-smaller : goal.more-smaller
more-smaller c = loop_shrinks (edge_loop (header_data c.args.header.now) c.args.before) c.in_ok-edge.ensures

pub more-preserved : goal.more-preserved
more-preserved c = grind (
  arith,
  loop_more (edge_loop (header_data c.args.header.now) c.args.before)
      c.more.invariant c.in_ok-edge.ensures,
)

pub returns-in_err-edge : goal.returns-in_err-edge
returns-in_err-edge c = let h = header_data c.args.header.now in
    exit _ _ _ _ (loop_fails (edge_loop h c.args.before) c.more.invariant
    (edge_begins h c.args.before (row_data c.more.row) _ (sym c.is_at_edge.ensures ∙ c.more-test.true)))
    c.in_err-edge.ensures c.from_residual.ensures.1

pub returns : goal.returns
returns c =
    let same : row_data c.more.row ≡ row_data (record c.more.row { edges = c.shrink_to_fit.new.self }) =
    ap (λ (es : List Edge). record (row_data c.more.row) { edges = map edge_data es })
    (sym c.shrink_to_fit.ensures.items)
    in
    value_is same (loop_ends (edge_loop (header_data c.args.header.now) c.args.before) c.more.invariant
    (avoids_kind begins_edge _ (λ k. false_true (sym c.more-test.false ∙ c.is_at_edge.ensures ∙ k))))
