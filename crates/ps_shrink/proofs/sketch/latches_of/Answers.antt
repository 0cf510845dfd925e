use Rattle.ps_simulate.proofs.EvaluationPlans.PlacesLemmas.{next_known}
use Rattle.ps_shrink.proofs.sketch.latches_of.Goals as goal

pub wire-requires : goal.wire-requires
wire-requires c = rw (← c.circuit-circuit.ensures.circuit, c.latch-item.is, c.latches-latch-items.ensures.latches)
    (next_known c.latches-latch-items.ensures.well_formed c.loop-number.number c.latch-item.result
    (rw c.latches-latch-items.ensures.latches at c.loop-number-test.true))
