use Rattle.std.proofs.Common.{◌≡◌, ◌∙◌, ◌+◌, ◌-◌, ◌^◌, ◌<◌, length, All, ap, rules, arith}
use Rattle.ps_simulate.specs.Inner.Moving.{CanMove}
use Rattle.ps_simulate.specs.LanePlans.{AreInOrder, AreMoved}
use Rattle.ps_simulate.specs.Plans.{variables}
use Rattle.ps_simulate.specs.declared.plan.Wire.{Wire}
use Rattle.ps_simulate.proofs.EvaluationPlans.RowLemmas.{length-variables}
use Rattle.ps_simulate.proofs.EvaluationPlans.StepLemmas.{rows_within, outputs_within, nexts_within}
use Rattle.ps_simulate.proofs.EvaluationPlans.LanePlanLemmas.{few_variables, few_rows, gate_rows_at, rows_once_at}
use Rattle.ps_simulate.proofs.EvaluationPlans.LanePlanLemmas.{AreMoved_at}
use Rattle.ps_simulate.proofs.EvaluationPlans.LanePlanLemmas.{moved_small}
use Rattle.ps_simulate.proofs.lane_plan.LanePlan.new.Goals as goal
use Rattle.ps_simulate.proofs.lane_plan.LanePlan.new.Goals.{After-deref, After-deref-2}

size_is : (c : After-deref) → c.in_ok-plan.plan.size ≡ length (variables c.args.circuit.now)
size_is c = c.in_ok-plan.ensures.size_is

front_is : (c : After-deref) → c.in_ok-plan.plan.size - length c.gates-gates.result.now ≡ 1 + length
    c.args.circuit.now.inputs + length c.args.circuit.now.latches
front_is c = omega (arith, ap length c.gates-gates.ensures.gates, size_is c, length-variables c.args.circuit.now)

are_moved : (c : After-deref-2) → AreMoved c.in_ok-plan.plan.size
    (c.in_ok-plan.plan.size - length c.gates-gates.result.now) c.in_ok-places.places.items
are_moved c = search (rules, AreMoved_at, length-variables)

-- the new indices are less than 2^31, so they can be variables of literals
small : (c : After-deref-2) → All (λ p. p < 2 ^ 31) c.in_ok-places.places.items
small c = moved_small (are_moved c) (grind (arith, few_variables))

many : (c : After-deref-2) → length c.in_ok-places.places.items ≡ length (variables c.args.circuit.now)
many c = c.in_ok-places.ensures.size ∙ c.in_ok-plan.ensures.size_is

pub moved_places-requires-clause-fit : goal.moved_places-requires-clause-fit
moved_places-requires-clause-fit c = search (rules, front_is, size_is, few_rows, length-variables)

pub moved_places-requires-clause-gates : goal.moved_places-requires-clause-gates
moved_places-requires-clause-gates c = search (rules, gate_rows_at, size_is, front_is)

pub moved_places-requires-clause-once : goal.moved_places-requires-clause-once
moved_places-requires-clause-once c = search (rules, rows_once_at)

-- a wire of the plan can get its new index
can_move : (c : After-deref-2) (w : Wire) → w.place < length (variables c.args.circuit.now) →
    CanMove c.in_ok-places.places.items w
can_move c w lt =
    let there : w.place < length c.in_ok-places.places.items = omega (arith, many c, lt) in
    record { within = there; small = small c w.place 0 there }

pub gates_of-requires : goal.gates_of-requires
gates_of-requires c = search (rules, can_move, rows_within)

pub literals-requires : goal.literals-requires
literals-requires c = search (rules, can_move, outputs_within)

pub literals-requires-2 : goal.literals-requires-2
literals-requires-2 c = search (rules, can_move, nexts_within)

pub returns : goal.returns
returns c =
    let b = (goal.at.returns c).After-deref-2 in
    let a = (goal.at.returns c).After-deref in
    let p = c.in_ok-plan.plan in
    let f = p.size - length c.gates-gates.result.now in
    let order : AreInOrder f c.deref-2.result.now c.deref-3.result.now = grind arith in (
      p,
      c.in_ok-places.places.items,
      grind (arith, are_moved, size_is, front_is),
    )
