use Rattle.std.proofs.Common.{arith}
use Rattle.ps_product.proofs.CircuitFunctions.GroupLemmas.{ok_map}
use Rattle.ps_models.proofs.ComparedAutomata.JointReadings.{if_even}
use Rattle.ps_models.proofs.agreeing.lasso_if.Goals as goal

pub returns : goal.returns
returns c = ok_map _ _ c.lasso_at.result c.lasso_at.ensures (λ found told.
    if_even c.args.graph.now c.args.even c.args.priority found (grind arith) told)
