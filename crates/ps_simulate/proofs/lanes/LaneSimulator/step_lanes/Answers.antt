use Rattle.std.proofs.Common.{◌≡◌, ◌∙◌, ◌++◌, ℕ, ◌<◌, length, take, drop, ap, rules, sym, arith}
use Rattle.std.proofs.lemmas.List.{take_at}
use Rattle.ps_simulate.specs.LanePlans.{rows_from}
use Rattle.ps_simulate.specs.Lanes.{LaneSimulation, lane_of}
use Rattle.ps_simulate.specs.Plans.{IsWorkedOut}
use Rattle.ps_simulate.proofs.EvaluationPlans.LaneStepLemmas.{room, latches_many, gates_fit, gates_within}
use Rattle.ps_simulate.proofs.EvaluationPlans.LaneStepLemmas.{outputs_in_table}
use Rattle.ps_simulate.proofs.EvaluationPlans.LaneStepLemmas.{nexts_in_table, outputs_many, nexts_many, constant_there}
use Rattle.ps_simulate.proofs.EvaluationPlans.LaneStepLemmas.{Steps-lane}
use Rattle.ps_simulate.proofs.EvaluationPlans.LaneStepLemmas.{IsValueTable-lane}
use Rattle.ps_simulate.proofs.lanes.LaneSimulator.step_lanes.Goals as goal
use Rattle.ps_simulate.proofs.lanes.LaneSimulator.step_lanes.Goals.{After-fill_words, After-read_words-2}

-- after the call of `fill_words`, the simulator's table of values consists of the values that the call wrote
table_is : (c : After-fill_words) → take c.self.inside.values.len
    (c.fill_words.new.values ++ drop (length c.fill_words.new.values) c.self.inside.values.items) ≡
    c.fill_words.new.values
table_is c = search (rules, take_at)

size_is : (c : After-fill_words) → length c.deref_mut.result.now ≡ c.self.inside.plan.size
size_is c = ap length c.deref_mut.ensures.value ∙ c.self.invariant.values_each

table_size : (c : After-fill_words) → length c.fill_words.new.values ≡ c.self.inside.plan.size
table_size c = c.fill_words.auto.values ∙ size_is c

worked : (c : After-fill_words) (lane : ℕ) → lane < 256 → IsWorkedOut
    (rows_from c.self.inside.plan.front c.self.inside.plan.gates.items) (lane_of c.args.inputs.now lane)
    (lane_of c.self.inside.latches.items lane) c.self.inside.plan.size (lane_of c.fill_words.new.values lane)
worked c lane lt = rw (c.deref.ensures.value, c.deref-2.ensures.value, size_is c) at (c.fill_words.ensures lane lt)

next_is : (c : After-read_words-2) → take c.self.inside.latches.len
    (c.read_words-2.new.words ++ drop (length c.read_words-2.new.words) c.self.inside.latches.items) ≡
    c.read_words-2.new.words
next_is c = search (rules, take_at)

pub fill_words-requires : goal.fill_words-requires
fill_words-requires c =
    let t = c.self.invariant in
    record {
      within = grind (arith, gates_within t);
      fit = search (rules, gates_fit);
      room = grind (arith, latches_many t, room t);
      constant = λ lane lt. rw c.deref_mut.ensures.value (constant_there t lane lt);
    }

pub read_words-requires-clause-within : goal.read_words-requires-clause-within
read_words-requires-clause-within c = grind (arith, outputs_in_table c.self.invariant)

pub read_words-requires-clause-fit : goal.read_words-requires-clause-fit
read_words-requires-clause-fit c = grind (arith, outputs_many c.self.invariant)

pub read_words-requires-2-clause-within : goal.read_words-requires-2-clause-within
read_words-requires-2-clause-within c = grind (arith, nexts_in_table c.self.invariant)

pub read_words-requires-2-clause-fit : goal.read_words-requires-2-clause-fit
read_words-requires-2-clause-fit c =
    search (rules, latches_many, nexts_many, c.self.invariant, c.deref_mut-2.ensures.value, c.deref-5.ensures.value)

-- the given inputs have an entry of four words for each input of the circuit
letters_fit : (c : After-read_words-2) → length c.args.inputs.now ≡ length c.self.inside.circuit.now.inputs
letters_fit c = c.requires.inputs_fit ∙ sym (ap (λ (v : LaneSimulation). length v.circuit.inputs) c.self.view_is)

next_length : (c : After-read_words-2) → length c.read_words-2.new.words ≡ length c.self.inside.circuit.now.latches
next_length c = c.read_words-2.auto.words ∙ ap length c.deref_mut-2.ensures.value ∙ latches_many c.self.invariant

pub invariant_of-self : goal.invariant_of-self
invariant_of-self c =
    let a = (goal.at.invariant_of-self c).After-fill_words in
    let b = (goal.at.invariant_of-self c).After-read_words-2 in
    let t = c.self.invariant in
    rw (table_is a, next_is b) (record {
      plan = t.plan;
      places = t.places;
      is_lane_plan = t.is_lane_plan;
      values_each = table_size a;
      tables = λ lane lt. IsValueTable-lane t c.args.inputs.now c.fill_words.new.values lane lt (letters_fit b)
          (worked a lane lt) c.read_words-2.new.words (next_length b);
    })

pub returns-clause-steps : goal.returns-clause-steps
returns-clause-steps c lane lt =
    let a = (goal.at.returns-clause-steps c).After-fill_words in
    let b = (goal.at.returns-clause-steps c).After-read_words-2 in
    let s = c.self.inside in
    let next =
    take s.latches.len (c.read_words-2.new.words ++ drop (length c.read_words-2.new.words) s.latches.items) in
    rw (← c.self.view_is) (Steps-lane c.self.invariant c.args.inputs.now c.fill_words.new.values lane lt (letters_fit b)
    (worked a lane lt) c.read_words.new.words next (grind (arith, table_is)) (grind (arith, next_is, table_is)))
