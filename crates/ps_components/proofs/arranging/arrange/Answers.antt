use Rattle.std.proofs.Common.{arith}
use Rattle.ps_components.proofs.Knots.{first-knot, no_cycle, order-of_components}
use Rattle.ps_components.proofs.arranging.arrange.Goals as goal

pub returns-in-Some : goal.returns-in-Some
returns-in-Some g c =
    let e = c.in_ok-components.ensures in
    first-knot e.components e.met c.in-Some.item c.in-Some.ensures.knot c.in-Some.ensures.first

pub returns-in-None : goal.returns-in-None
returns-in-None g c =
    let e = c.in_ok-components.ensures in grind (
      arith,
      order-of_components e.components e.met c.in-None.ensures.none,
      no_cycle e.components e.met c.in-None.ensures.none,
    )
