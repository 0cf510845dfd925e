use Rattle.std.proofs.Common.{ap, get_or, refl, subst}
use Rattle.ps_automaton.specs.declared.step.Step.{Step}
use Rattle.ps_tableau_product.proofs.JointProducts.JointAdds.{IsPlaced, joins_more, pair_placed}
use Rattle.ps_tableau_product.proofs.joining.join.Goals as goal

pub loop-leaf-preserved : goal.loop-leaf-preserved
loop-leaf-preserved c =
    let pair = get_or c.args.met.now c.loop-leaf.leaf-index (0, 0) in
    let step = c.pair-step.ensures.pair in
    let placed = subst (λ (y : Step). IsPlaced c.loop-leaf.vertices c.place_of.new.self (y.state, c.args.state)
    c.in_ok-to.to) step (pair_placed c.loop-leaf.vertices c.place_of.new.self (c.pair-step.result.state, c.args.state)
    c.in_ok-to.to c.in_ok-to.ensures.0) in
    joins_more (record {
      to = c.in_ok-to.to;
      letter = pair.1;
      priority = c.pair-step.result.priority;
      cover = c.args.cover.now;
    }) c.in_ok-to.to c.loop-leaf.invariant placed c.in_ok-push.ensures.items refl refl refl
    (ap (λ (y : Step). y.priority) step)
