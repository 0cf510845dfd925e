use Rattle.std.proofs.Common.{◌≡◌, get_or, length, ap, inl, inr, arith, ◌∙◌}
use Rattle.std.proofs.lemmas.Bool.{cases_lt}
use Rattle.ps_fairness.proofs.InsideLemmas.{entry, is_in_number, is_in_true, none_at_end, none_at_other, within_numbers}
use Rattle.ps_fairness.proofs.full.edge_within.Goals as goal

pub returns-then-not-is_in-clause-none : goal.returns-then-not-is_in-clause-none
returns-then-not-is_in-clause-none g c =
    let place = c.loop-place.place in
    let vertex = get_or c.order-order.result.now place 0 in
    let at = entry c.order-order.result.now c.args.components.now.order place 0 c.order-order.ensures (omega arith) in
    none_at_other c.requires (g.G.Marked.marks c.args.graph.now) c.args.number c.args.mark place vertex
    c.loop-place.invariant at (λ is_in. grind (arith, is_in_number c.args.components.now vertex c.args.number is_in))
    (omega arith)

pub edge_from-requires-clause-vertex : goal.edge_from-requires-clause-vertex
edge_from-requires-clause-vertex g c =
    let place = c.loop-place.place in
    let vertex = get_or c.order-order.result.now place 0 in
    let at = entry c.order-order.result.now c.args.components.now.order place 0 c.order-order.ensures (omega arith) in
    let own = c.requires.ordered place vertex at in
    is_in_true c.args.components.now vertex c.args.number
    (within_numbers c.args.components.now vertex own.0 own.1) (grind arith)

pub loop-place-preserved : goal.loop-place-preserved
loop-place-preserved g c = λ i v lt le at_v e same wanted.
    let place = c.loop-place.place in
    let vertex = get_or c.order-order.result.now place 0 in
    let at = entry c.order-order.result.now c.args.components.now.order place 0 c.order-order.ensures (omega arith) in
    elim (cases_lt i place) [
      | inl less ↦ c.loop-place.invariant i v less le at_v e same wanted
      | inr behind ↦
          let here : i ≡ place = omega arith in
          let one : v ≡ vertex = cc in
          c.in_default.ensures.none e (same ∙ one) wanted
    ]

pub returns-clause-none : goal.returns-clause-none
returns-clause-none g c = none_at_end c.requires (g.G.Marked.marks c.args.graph.now) c.args.number c.args.mark
    c.loop-place.place c.loop-place.invariant
    (omega (arith, ap length c.order-order.ensures, c.loop-place-test.false))
