-- What a single lane reads from the table of values when 256 runs take a step at once.
use Rattle.std.proofs.Common.{◌≡◌, ℕ, ◌+◌, ◌/◌, ◌<◌, ◌≤◌, Bool, false, List, map, length, get_or, sym, ap, rules}
use Rattle.std.proofs.Common.{◌∙◌, arith, All}
use Rattle.std.specs.Prelude.{replicate}
use Rattle.std.proofs.lemmas.List.{length-map, get_or-map}
use Rattle.std.proofs.lemmas.List.Elements.{All-map}
use Rattle.std.proofs.lemmas.Simd.{map-map, get_or-replicate, length-replicate}
use Rattle.ps_circuit.specs.Circuits.{CircuitData, IsCircuit}
use Rattle.ps_circuit.specs.Values.{Steps, resets}
use Rattle.ps_simulate.specs.declared.plan.Wire.{Wire}
use Rattle.ps_simulate.specs.declared.plan.Plan.{Plan}
use Rattle.ps_simulate.specs.declared.lane_plan.LanePlan.{LanePlan}
use Rattle.ps_simulate.specs.Plans.{IsRowInTable, IsWorkedOut, variables, read}
use Rattle.ps_simulate.specs.LanePlans.{wire_in, rows_from, move_wire, move_row, unmoved, AreMoved, IsLanePlan}
use Rattle.ps_simulate.specs.Lanes.{AreLaneTables, lane_of}
use Rattle.ps_simulate.specs.Tables.{IsValueTable}
use Rattle.ps_simulate.proofs.EvaluationPlans.LaneLemmas.{length-lane, bit_in-mask}
use Rattle.ps_simulate.proofs.EvaluationPlans.LanePlanLemmas.{few_rows, gates_end}
use Rattle.ps_simulate.proofs.EvaluationPlans.MoveLemmas.{IsWorkedOut-unmoved, reads-unmoved, unmoved_at}
use Rattle.ps_simulate.proofs.EvaluationPlans.RowLemmas.{length-variables}
use Rattle.ps_simulate.proofs.EvaluationPlans.StepLemmas.{rows_within, outputs_within, nexts_within, Steps-worked_out}
use Rattle.ps_simulate.proofs.EvaluationPlans.StepLemmas.{IsValueTable-worked_out}
use Rattle.ps_simulate.specs.NeededGates.{no_wire}

-- the variables of renumbered literals are indices within the table of values
literals_within : {size front : ℕ} {places : List ℕ} (literals : List ℕ) (wires : List Wire) →
    AreMoved size front places → map wire_in literals ≡ map (move_wire places) wires → All (λ w. w.place < size) wires →
    All (λ literal. literal / 2 < size) literals
literals_within {size} {places} literals wires are e within k d lt =
    let many : length literals ≡ length wires = search (rules, length-map) in
    grind (
      arith,
      get_or-map wire_in literals k d no_wire lt,
      get_or-map (move_wire places) wires k no_wire no_wire (omega arith),
    )

module _ {c : CircuitData} {p : LanePlan} {values latches : List (List ℕ)} (t : AreLaneTables c p values latches) where
  first_table : IsValueTable c t.plan (unmoved t.places (lane_of values 0)) (lane_of latches 0)
  first_table = t.tables 0 (omega arith)

  pub size_is : p.size ≡ length (variables c)
  size_is = t.is_lane_plan.size_is ∙ t.is_lane_plan.is_plan.size_is

  -- the table of values has one value for the constant and one for each input, latch and gate
  pub room : p.size ≡ 1 + length c.inputs + length c.latches + length c.gates
  room = omega (arith, size_is, length-variables c)

  pub latches_many : length latches ≡ length c.latches
  latches_many = sym (length-lane latches 0) ∙ first_table.latches_each

  plan_rows : All (IsRowInTable p.size) t.plan.rows.items
  plan_rows = rw size_is (rows_within first_table.is_circuit t.is_lane_plan.is_plan)

  plan_outputs : All (λ w. w.place < p.size) t.plan.outputs.items
  plan_outputs = rw size_is (outputs_within first_table.is_circuit t.is_lane_plan.is_plan)

  plan_nexts : All (λ w. w.place < p.size) t.plan.nexts.items
  plan_nexts = rw size_is (nexts_within first_table.is_circuit t.is_lane_plan.is_plan)

  pub gates_within : All (IsRowInTable p.size) (rows_from p.front p.gates.items)
  gates_within =
      let are = t.is_lane_plan.are_moved in
      rw t.is_lane_plan.gates_are (All-map (IsRowInTable p.size) (move_row t.places) t.plan.rows.items (λ k d lt.
      grind (arith, plan_rows)))

  pub outputs_in_table : All (λ literal. literal / 2 < p.size) p.outputs.items
  outputs_in_table = search (rules, literals_within, plan_outputs)

  pub nexts_in_table : All (λ literal. literal / 2 < p.size) p.nexts.items
  nexts_in_table = search (rules, literals_within, plan_nexts)

  pub outputs_many : length p.outputs.items ≡ length c.outputs
  outputs_many = search (rules, length-map)

  pub nexts_many : length p.nexts.items ≡ length c.latches
  nexts_many = search (rules, length-map)

  -- the values of the gates have indices within the table of values
  pub gates_fit : p.front + length p.gates.items ≤ p.size
  gates_fit = gates_end p.front p.size p.gates.items t.plan.rows.items t.places t.is_lane_plan.gates_are
      (grind (arith, few_rows, room))

  -- in each lane, the value at the index 0 of the table is the constant false
  pub constant_there : (lane : ℕ) → lane < 256 → get_or (lane_of values lane) 0 false ≡ false
  constant_there lane lt =
      let are = t.is_lane_plan.are_moved in
      sym (ap (λ q. get_or (lane_of values lane) q false) (are.kept 0 (omega (arith, t.is_lane_plan.front_is))))
      ∙ sym (unmoved_at t.places (lane_of values lane) 0 (omega (arith, are.each, room))) ∙ (t.tables lane lt).constant

  module _ (inputs after : List (List ℕ)) (lane : ℕ) (lt : lane < 256) (many : length inputs ≡ length c.inputs)
      (worked : IsWorkedOut (rows_from p.front p.gates.items) (lane_of inputs lane) (lane_of latches lane) p.size
      (lane_of after lane)) where
    abbrev table : List Bool
    table = unmoved t.places (lane_of after lane)

    in_plan : IsWorkedOut t.plan.rows.items (lane_of inputs lane) (lane_of latches lane) (length (variables c)) table
    in_plan = search (rules, size_is, IsWorkedOut-unmoved, plan_rows, length-lane, latches_many, room)

    reads : (literals : List ℕ) (wires : List Wire) → map wire_in literals ≡ map (move_wire t.places) wires →
        All (λ w. w.place < p.size) wires
        → map (λ l. read (lane_of after lane) (wire_in l)) literals ≡ map (read table) wires
    reads literals wires e within = sym (map-map (read (lane_of after lane)) wire_in literals)
        ∙ ap (map (read (lane_of after lane))) e ∙ reads-unmoved t.places (lane_of after lane) wires
        (λ k d less. omega (arith, within k d less, t.is_lane_plan.are_moved.each))

    pub Steps-lane : (outputs next : List (List ℕ)) → lane_of outputs lane ≡ map
        (λ l. read (lane_of after lane) (wire_in l)) p.outputs.items
        → lane_of next lane ≡ map (λ l. read (lane_of after lane) (wire_in l)) p.nexts.items →
        Steps c (lane_of latches lane) (lane_of inputs lane) (lane_of outputs lane) (lane_of next lane)
    Steps-lane outputs next outputs_are next_are = Steps-worked_out first_table.is_circuit t.is_lane_plan.is_plan
        (length-lane inputs lane ∙ many) (length-lane latches lane ∙ latches_many) in_plan
        (outputs_are ∙ reads p.outputs.items t.plan.outputs.items t.is_lane_plan.outputs_are plan_outputs)
        (next_are ∙ reads p.nexts.items t.plan.nexts.items t.is_lane_plan.nexts_are plan_nexts)

    pub IsValueTable-lane : (next : List (List ℕ)) → length next ≡ length c.latches →
        IsValueTable c t.plan table (lane_of next lane)
    IsValueTable-lane next each =
        IsValueTable-worked_out (lane_of next lane) (t.tables lane lt) in_plan (length-lane next lane ∙ each)

-- tables of zeros
pub AreLaneTables-zeros : {c : CircuitData} → IsCircuit c → {p : LanePlan} {plan : Plan} {places : List ℕ} →
    IsLanePlan c plan places p → {values : List (List ℕ)} (latches : List (List ℕ))
    → values ≡ replicate p.size (replicate 4 0) → ((lane : ℕ) → lane < 256 → lane_of latches lane ≡ resets c) →
    AreLaneTables c p values latches
AreLaneTables-zeros {c} is {p} {plan} {places} is_lane_plan {values} latches zeros first = record {
  plan = plan;
  places = places;
  is_lane_plan = is_lane_plan;
  values_each = each;
  tables = search (rules, length-map, unmoved_at, get_or-map, get_or-replicate, bit_in-mask);
}
  where
    each : length values ≡ p.size
    each = ap length zeros ∙ length-replicate p.size (replicate 4 0)

    some : 0 < p.size
    some = omega (arith, is_lane_plan.size_is, is_lane_plan.is_plan.size_is, length-variables c)
