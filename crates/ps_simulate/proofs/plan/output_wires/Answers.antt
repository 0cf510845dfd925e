use Rattle.std.proofs.Common.{arith}
use Rattle.std.proofs.lemmas.Grind.{common_steps}
use Rattle.ps_simulate.proofs.EvaluationPlans.PlacesLemmas.{output_known}
use Rattle.ps_simulate.proofs.plan.output_wires.Goals as goal

pub wire-requires : goal.wire-requires
wire-requires c = rw (← c.circuit-circuit.ensures.circuit, c.output-item.is, c.outputs-output-items.ensures.outputs)
    (output_known c.outputs-output-items.ensures.well_formed c.loop-output.output-index c.output-item.result
    (rw c.outputs-output-items.ensures.outputs at c.loop-output-test.true))

pub returns : goal.returns
returns c = grind (arith, common_steps)

pub loop-output-preserved : goal.loop-output-preserved
loop-output-preserved c = grind (arith, common_steps)
