use Rattle.std.proofs.lemmas.Grind.{common_steps, elements}
use Rattle.std.proofs.Common.{arith, ◌≡◌, ℕ, ◌<◌, ◌∙◌, ◌++◌, ◌∷◌, [], List, ap, sym, map, take, length, get_or}
use Rattle.std.proofs.lemmas.List.{get_or_default, map-append, take_more}
use Rattle.std.proofs.lemmas.Option.{slice_get-get_or}
use Rattle.ps_circuit.specs.Circuits.{CircuitData}
use Rattle.ps_circuit.specs.declared.parts.Gate.{Gate}
use Rattle.ps_simulate.specs.declared.plan.Row.{Row}
use Rattle.ps_simulate.specs.declared.plan.Wire.{Wire}
use Rattle.ps_simulate.specs.Plans.{no_gate, row_at, wire_of}
use Rattle.ps_simulate.proofs.EvaluationPlans.PlacesLemmas.{gate_known, sides_known}
use Rattle.ps_simulate.proofs.plan.rows_of.Goals as goal
use Rattle.ps_simulate.proofs.plan.rows_of.Goals.{After-order-order}

-- an entry of the order is the index of a gate
within : (c : After-order-order) (k : ℕ) → k < length c.order-order.result.now →
    get_or c.order-order.result.now k 0 < length c.circuit-circuit.result.now.gates
within c k lt = c.order-order.ensures.within k _ (slice_get-get_or c.order-order.result.now k 0 lt)

pub wire-requires : goal.wire-requires
wire-requires c = rw (← c.circuit-circuit.ensures.circuit, c.index-gates-place.is, c.gates-gates.ensures.gates)
    (gate_known c.gates-gates.ensures.well_formed _ c.index-gates-place.result
    (within (goal.at.wire-requires c).After-order-order c.loop-place.place-index c.loop-place-test.true))

pub wire-requires-in-loop-place : goal.wire-requires-in-loop-place
wire-requires-in-loop-place c =
    rw (← c.circuit-circuit.ensures.circuit, c.index-gates-place.is, c.gates-gates.ensures.gates)
    (sides_known c.gates-gates.ensures.well_formed _ c.index-gates-place.result
    (within (goal.at.wire-requires-in-loop-place c).After-order-order c.loop-place.place-index
    c.loop-place-test.true)).0

pub wire-requires-in-loop-place-2 : goal.wire-requires-in-loop-place-2
wire-requires-in-loop-place-2 c =
    rw (← c.circuit-circuit.ensures.circuit, c.index-gates-place.is, c.gates-gates.ensures.gates)
    (sides_known c.gates-gates.ensures.well_formed _ c.index-gates-place.result
    (within (goal.at.wire-requires-in-loop-place-2 c).After-order-order c.loop-place.place-index
    c.loop-place-test.true)).1

pub loop-place-preserved : goal.loop-place-preserved
loop-place-preserved c =
    let circuit = c.args.places.now in
    let same = c.circuit-circuit.ensures.circuit in
    let order = c.order-order.result.now in
    let k = c.loop-place.place-index in
    let place = get_or order k 0 in
    let gate = c.index-gates-place.result in
    let less : place < length circuit.gates =
    rw same at (within (goal.at.loop-place-preserved c).After-order-order k c.loop-place-test.true) in
    let is : gate ≡ get_or circuit.gates place no_gate = c.index-gates-place.is
    ∙ ap (λ (gs : List Gate). get_or gs place gate)
    (c.gates-gates.ensures.gates ∙ ap (λ (d : CircuitData). d.gates) same)
    ∙ get_or_default circuit.gates place gate no_gate less in
    let made : Wire → Wire → Wire → Row =
    λ own first second. record { target = own.place; first = first; second = second } in
    let g = get_or circuit.gates place no_gate in
    let own = c.wire.ensures ∙ ap (λ (h : Gate). wire_of circuit h.literal) is in
    let first = c.wire-in-loop-place.ensures ∙ ap (λ (h : Gate). wire_of circuit h.first) is in
    let second = c.wire-in-loop-place-2.ensures ∙ ap (λ (h : Gate). wire_of circuit h.second) is in
    let row : made c.wire.result c.wire-in-loop-place.result c.wire-in-loop-place-2.result ≡ row_at circuit place =
    ap (λ (w : Wire). made w c.wire-in-loop-place.result c.wire-in-loop-place-2.result) own
    ∙ ap (λ (w : Wire). made (wire_of circuit g.literal) w c.wire-in-loop-place-2.result) first
    ∙ ap (made (wire_of circuit g.literal) (wire_of circuit g.first)) second in
    c.in_ok-push.ensures.items ∙ ap (λ (r : Row). c.loop-place.rows.items ++ r ∷ []) row
    ∙ ap (λ (rows : List Row). rows ++ row_at circuit place ∷ []) c.loop-place.invariant
    ∙ sym (ap (map (row_at circuit)) (take_more order k 0 c.loop-place-test.true)
    ∙ map-append (row_at circuit) (take k order) (place ∷ []))

pub returns : goal.returns
returns c = record {
  is_circuit = c.circuit-circuit.ensures.well_formed;
  order = c.order-order.result.now;
  is_order = rw c.circuit-circuit.ensures.circuit at c.order-order.ensures;
  each = grind (arith, common_steps);
}

pub offset_bounds-gates-place : goal.offset_bounds-gates-place
offset_bounds-gates-place c = grind (arith, elements)

pub bounds-gates-place : goal.bounds-gates-place
bounds-gates-place c = grind (arith, elements)
