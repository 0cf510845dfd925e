use Rattle.std.proofs.Common.{arith}
use Rattle.std.proofs.lemmas.Grind.{common_steps}
use Rattle.ps_simulate.proofs.simulator.Simulator.new.Goals as goal

pub invariant_of-result : goal.invariant_of-result
invariant_of-result c =
    let plan = c.in_ok-plan.ensures in (
      plan.0,
      plan.2,
      grind (arith, common_steps, plan.1.size_is, plan.1.rows_are.is_circuit, plan.2.size_is),
    )
