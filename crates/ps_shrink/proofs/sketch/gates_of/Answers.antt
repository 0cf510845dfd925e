use Rattle.std.proofs.Common.{arith, ℕ, ◌<◌, length, get_or}
use Rattle.std.proofs.lemmas.Grind.{elements}
use Rattle.std.proofs.lemmas.Option.{slice_get-get_or}
use Rattle.ps_simulate.proofs.EvaluationPlans.PlacesLemmas.{gate_known, sides_known}
use Rattle.ps_shrink.proofs.sketch.gates_of.Goals as goal
use Rattle.ps_shrink.proofs.sketch.gates_of.Goals.{After-order-order}

-- an entry of the order is the index of a gate
within : (c : After-order-order) (k : ℕ) → k < length c.order-order.result.now →
    get_or c.order-order.result.now k 0 < length c.circuit-circuit.result.now.gates
within c k lt = c.order-order.ensures.within k _ (slice_get-get_or c.order-order.result.now k 0 lt)

pub wire-requires : goal.wire-requires
wire-requires c = rw (← c.circuit-circuit.ensures.circuit, c.index-gates-place.is, c.gates-gates.ensures.gates)
    (gate_known c.gates-gates.ensures.well_formed _ c.index-gates-place.result
    (within (goal.at.wire-requires c).After-order-order c.loop-place.place-index c.loop-place-test.true))

pub wire-requires-in-loop-place : goal.wire-requires-in-loop-place
wire-requires-in-loop-place c =
    rw (← c.circuit-circuit.ensures.circuit, c.index-gates-place.is, c.gates-gates.ensures.gates)
    (sides_known c.gates-gates.ensures.well_formed _ c.index-gates-place.result
    (within (goal.at.wire-requires-in-loop-place c).After-order-order c.loop-place.place-index
    c.loop-place-test.true)).0

pub wire-requires-in-loop-place-2 : goal.wire-requires-in-loop-place-2
wire-requires-in-loop-place-2 c =
    rw (← c.circuit-circuit.ensures.circuit, c.index-gates-place.is, c.gates-gates.ensures.gates)
    (sides_known c.gates-gates.ensures.well_formed _ c.index-gates-place.result
    (within (goal.at.wire-requires-in-loop-place-2 c).After-order-order c.loop-place.place-index
    c.loop-place-test.true)).1

pub offset_bounds-gates-place : goal.offset_bounds-gates-place
offset_bounds-gates-place c = grind (arith, elements)

pub bounds-gates-place : goal.bounds-gates-place
bounds-gates-place c = grind (arith, elements)
