use Rattle.std.proofs.Common.{arith}
use Rattle.std.proofs.lemmas.Grind.{common_steps}
use Rattle.ps_simulate.proofs.EvaluationPlans.PlacesLemmas.{next_known}
use Rattle.ps_simulate.proofs.plan.next_wires.Goals as goal

pub wire-requires : goal.wire-requires
wire-requires c = rw (← c.circuit-circuit.ensures.circuit, c.latch-item.is, c.latches-latch-items.ensures.latches)
    (next_known c.latches-latch-items.ensures.well_formed c.loop-latch.latch-index c.latch-item.result
    (rw c.latches-latch-items.ensures.latches at c.loop-latch-test.true))

pub loop-latch-preserved : goal.loop-latch-preserved
loop-latch-preserved c = grind (arith, common_steps)

pub returns : goal.returns
returns c = grind (arith, common_steps)
