use Rattle.std.proofs.Common.{◌≡◌, ◌∙◌, ◌++◌, length, take, drop, ap, arith}
use Rattle.std.proofs.lemmas.List.{take_at}
use Rattle.ps_simulate.specs.Plans.{IsWorkedOut, variables}
use Rattle.ps_simulate.proofs.EvaluationPlans.NeededLemmas.{cut_within, cut_nexts_within, cut_outputs_within}
use Rattle.ps_simulate.proofs.EvaluationPlans.NeededLemmas.{IsValueTable-cut}
use Rattle.ps_simulate.proofs.EvaluationPlans.NeededLemmas.{Steps-cut}
use Rattle.ps_simulate.proofs.EvaluationPlans.RowLemmas.{length-variables}
use Rattle.ps_simulate.proofs.simulator.Simulator.step.Goals as goal
use Rattle.ps_simulate.proofs.simulator.Simulator.step.Goals.{After-fill, After-read_all-2}

-- after the call of `fill`, the simulator's table of values consists of the values that the call wrote
table_is : (c : After-fill) → take c.self.inside.values.len (c.fill.new.values ++
    drop (length c.fill.new.values) c.self.inside.values.items) ≡ c.fill.new.values
table_is c = take_at c.fill.new.values _ _ (omega (arith, c.fill.auto.values, c.deref_mut.ensures.len))

size_is : (c : After-fill) → length c.deref_mut.result.now ≡ length (variables c.self.inside.circuit.now)
size_is c = ap length c.deref_mut.ensures.value ∙ c.self.invariant.2.values_each

table_size : (c : After-fill) → length c.fill.new.values ≡ length (variables c.self.inside.circuit.now)
table_size c = c.fill.auto.values ∙ size_is c

worked : (c : After-fill) → IsWorkedOut c.self.inside.plan.rows.items c.args.inputs.now c.self.inside.latches.items
    (length (variables c.self.inside.circuit.now)) c.fill.new.values
worked c = rw (c.deref.ensures.value, c.deref-2.ensures.value, size_is c) at c.fill.ensures

next_is : (c : After-read_all-2) → take c.self.inside.latches.len
    (c.read_all-2.new.bits ++ drop (length c.read_all-2.new.bits) c.self.inside.latches.items) ≡ c.read_all-2.new.bits
next_is c = take_at c.read_all-2.new.bits _ _ (omega (arith, c.read_all-2.auto.bits, c.deref_mut-2.ensures.len))

pub fill-requires : goal.fill-requires
fill-requires c =
    let t = c.self.invariant.2 in
    record {
      within = rw (c.deref.ensures.value, ap length c.deref_mut.ensures.value ∙ t.values_each)
          (cut_within t.is_circuit t.is_plan c.self.invariant.1);
      room = grind (arith, length-variables c.self.inside.circuit.now);
      constant = grind arith;
    }

pub read_all-requires-clause-within : goal.read_all-requires-clause-within
read_all-requires-clause-within c =
    let a = (goal.at.read_all-requires-clause-within c).After-fill in
    let t = c.self.invariant.2 in
    rw (c.deref-3.ensures.value, c.deref-4.ensures.value, table_is a, table_size a)
    (cut_outputs_within t.is_circuit t.is_plan c.self.invariant.1)

pub read_all-requires-2-clause-within : goal.read_all-requires-2-clause-within
read_all-requires-2-clause-within c =
    let a = (goal.at.read_all-requires-2-clause-within c).After-fill in
    let t = c.self.invariant.2 in
    rw (c.deref-5.ensures.value, c.deref-6.ensures.value, table_is a, table_size a)
    (cut_nexts_within t.is_circuit t.is_plan c.self.invariant.1)

next_length : (c : After-read_all-2) → length c.read_all-2.new.bits ≡ length c.self.inside.circuit.now.latches
next_length c = c.read_all-2.auto.bits ∙ ap length c.deref_mut-2.ensures.value ∙ c.self.invariant.2.latches_each

pub invariant_of-self : goal.invariant_of-self
invariant_of-self c =
    let a = (goal.at.invariant_of-self c).After-fill in
    let b = (goal.at.invariant_of-self c).After-read_all-2 in
    let t = c.self.invariant.2 in (
      c.self.invariant.0,
      c.self.invariant.1,
      rw (table_is a, next_is b)
          (IsValueTable-cut t.is_circuit t.is_plan c.self.invariant.1 (worked a) c.read_all-2.new.bits
          t (next_length b)),
    )

pub returns-clause-steps : goal.returns-clause-steps
returns-clause-steps c =
    let a = (goal.at.returns-clause-steps c).After-fill in
    let b = (goal.at.returns-clause-steps c).After-read_all-2 in
    let t = c.self.invariant.2 in
    rw (← c.self.view_is) (Steps-cut t.is_circuit t.is_plan c.self.invariant.1 (worked a) (grind arith) t.latches_each
    (grind (arith, table_is a)) (grind (arith, next_is b, table_is a)))
