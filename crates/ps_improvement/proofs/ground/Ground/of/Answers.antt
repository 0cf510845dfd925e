use Rattle.ps_improvement.proofs.Within.{sources_within, order_within}
use Rattle.ps_improvement.proofs.ground.Ground.of.Goals as goal

pub invariant_of-result : goal.invariant_of-result
invariant_of-result g c =
    let game = g.A.Arena.game c.args.arena.now in
    let sources = c.in_ok-of.ensures in
    let parts = c.in_ok-components_of.ensures.components in
    record {
      turned = sources.places;
      sources_within = sources_within game c.in_ok-of.field-0 sources;
      numbered = parts.counted;
      order_within = order_within game c.in_ok-components_of.field-0 parts;
    }
