use Rattle.std.proofs.Common.{arith}
use Rattle.std.proofs.lemmas.Grind.{common_steps}
use Rattle.ps_simulate.proofs.EvaluationPlans.PlacesLemmas.{sides_known}
use Rattle.ps_product.proofs.net.gate_sides.Goals as goal

pub wire-one-requires : goal.wire-one-requires
wire-one-requires c = rw (← c.circuit-circuit.ensures.circuit, c.gate-item.is, c.gates-gate-items.ensures.gates)
    (sides_known c.gates-gate-items.ensures.well_formed c.loop-gate.gate-index c.gate-item.result
    (rw c.gates-gate-items.ensures.gates at c.loop-gate-test.true)).0

pub wire-other-requires : goal.wire-other-requires
wire-other-requires c =
    rw (← c.circuit-circuit.ensures.circuit, c.gate-item.is, c.gates-gate-items.ensures.gates)
    (sides_known c.gates-gate-items.ensures.well_formed c.loop-gate.gate-index c.gate-item.result
    (rw c.gates-gate-items.ensures.gates at c.loop-gate-test.true)).1

pub returns : goal.returns
returns c = grind (arith, common_steps)

pub loop-gate-preserved : goal.loop-gate-preserved
loop-gate-preserved c = grind (arith, common_steps)
