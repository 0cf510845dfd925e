-- The relation between the values of a circuit in the table of values, by index, and in a list, by variable.
use Rattle.std.proofs.Common.{◌≡◌, ℕ, suc, ◌+◌, ◌<◌, ◌&&◌, Bool, false, inl, inr, List, ◌∷◌, ◌++◌}
use Rattle.std.proofs.Common.{map, length, get_or, sym, ap, subst, ◌∙◌, arith, length-append, rules}
use Rattle.std.specs.Prelude.{replicate}
use Rattle.std.specs.List.{range_with_len}
use Rattle.std.proofs.lemmas.List.{length-map, get_or-map, ext_get_or, get_or_append_left, get_or-append-add}
use Rattle.std.proofs.lemmas.List.FromFn.{get_or-map-range_with_len, length-map-range_with_len}
use Rattle.std.proofs.lemmas.List.Elements.{All-from_get_or}
use Rattle.std.proofs.lemmas.Bool.{ne_eqb}
use Rattle.ps_circuit.specs.declared.parts.Latch.{Latch}
use Rattle.ps_circuit.specs.Circuits.{CircuitData, IsCircuit, IsKnown, definitions}
use Rattle.ps_circuit.specs.Literals.{variable}
use Rattle.ps_simulate.specs.declared.plan.Row.{Row}
use Rattle.ps_circuit.specs.Values.{AreValues, MeetsGate, value_of, bit_of}
use Rattle.ps_simulate.specs.Plans.{variables, place_of_variable, wire_of, row_at, no_gate, AreGateRows, HasSources}
use Rattle.ps_simulate.specs.Plans.{read, work_out}
use Rattle.ps_simulate.proofs.EvaluationPlans.PlacesLemmas.{place_of-at, sides_known}
use Rattle.ps_simulate.proofs.EvaluationPlans.RowLemmas.{no_latch, length-definitions, length-variables}
use Rattle.ps_simulate.proofs.EvaluationPlans.RowLemmas.{definitions_input}
use Rattle.ps_simulate.proofs.EvaluationPlans.RowLemmas.{definitions_latch, definitions_gate, place_of-definition}
use Rattle.ps_simulate.proofs.EvaluationPlans.RowLemmas.{row_is, row_of_gate}
use Rattle.ps_simulate.proofs.EvaluationPlans.RowLemmas.{target_is, IsScheduled-rows, IsRowInTable-row}
use Rattle.ps_simulate.specs.NeededGates.{numbered_row}
use Rattle.ps_simulate.proofs.EvaluationPlans.WorkLemmas.{work_out-other, work_out-row}

-- the value of each variable, from 0 to the greatest, taken from a table that has the values by index
abbrev pub values_by : CircuitData → List Bool → List Bool
values_by c table = map (λ v. get_or table (place_of_variable c v) false) (range_with_len 0 (c.most + 1))

module _ {c : CircuitData} (is : IsCircuit c) where
  variable-le_most : (literal : ℕ) → IsKnown (definitions c) literal → variable literal < c.most + 1
  variable-le_most literal (inl e) = omega arith
  variable-le_most literal (inr (k, lt, e)) =
      let within : k < length (definitions c) = omega (arith, length-map (definitions c) variable) in
      grind (arith, get_or-map variable (definitions c) k 0 (variable literal) within)

  -- a literal has the same value in the table and in the list of values
  pub bit_of-values_by : (table : List Bool) (literal : ℕ) → IsKnown (definitions c) literal
      → bit_of (values_by c table) literal ≡ read table (wire_of c literal)
  bit_of-values_by table literal known = search (rules, get_or-map-range_with_len, variable-le_most)

  -- a literal that defines a variable is not negated
  pub bit_of-definition : (values : List Bool) (k : ℕ) {literal : ℕ} → k < length (definitions c) →
      get_or (definitions c) k 0 ≡ literal → bit_of values literal ≡ value_of values (variable literal)
  bit_of-definition values k {literal} lt e = search (rules, ne_eqb)

  value_at : (table : List Bool) (k : ℕ) {literal : ℕ} → k < length (definitions c) →
      get_or (definitions c) k 0 ≡ literal → bit_of (values_by c table) literal ≡ get_or table (suc k) false
  value_at table k {literal} lt e =
      let is_definition = is.draft.defined k 0 lt in
      let small : variable literal < c.most + 1 = omega (arith, is_definition.2, ap variable e) in
      bit_of-definition (values_by c table) k lt e
      ∙ get_or-map-range_with_len (λ v. get_or table (place_of_variable c v) false)
      0 (c.most + 1) (variable literal) (variable literal) false small (omega arith)
      ∙ ap (λ p. get_or table p false) (place_of-definition is k lt e)

  module _ {rows : List Row} (are : AreGateRows c rows) {inputs latches table : List Bool}
      (each : length table ≡ length (variables c)) (many_inputs : length inputs ≡ length c.inputs)
      (many_latches : length latches ≡ length c.latches) (holds : HasSources inputs latches table) where
    -- evaluating the rows of the plan does not change the values of the constant, the inputs and the latches
    kept : (p : ℕ) → p < suc (length c.inputs + length c.latches) →
        get_or (work_out rows table) p false ≡ get_or table p false
    kept p lt = work_out-other rows table p (λ k less e. omega (arith, target_is is are k less))

    inputs_hold : map (bit_of (values_by c (work_out rows table))) c.inputs ≡ inputs
    inputs_hold = ext_get_or false _ inputs (length-map c.inputs _ ∙ sym many_inputs)
        (λ k lt. at k (omega (arith, length-map c.inputs (bit_of (values_by c (work_out rows table))))))
      where
        at : (k : ℕ) → k < length c.inputs → get_or (map (bit_of (values_by c (work_out rows table))) c.inputs) k false
            ≡ get_or inputs k false
        at k lt = get_or-map (bit_of (values_by c (work_out rows table))) c.inputs k 0 false lt
            ∙ value_at (work_out rows table) k (omega (arith, length-definitions c)) (definitions_input c k lt)
            ∙ kept (suc k) (omega arith) ∙ ap (λ p. get_or table p false) (omega arith)
            ∙ holds.inputs_there k (omega arith)

    latches_hold : map (λ l. bit_of (values_by c (work_out rows table)) l.literal) c.latches ≡ latches
    latches_hold =
        ext_get_or false _ latches (length-map c.latches _ ∙ sym many_latches) (λ k lt. grind (arith, at, length-map))
      where
        at : (k : ℕ) → k < length c.latches → get_or (map (λ l. bit_of (values_by c (work_out rows table)) l.literal)
            c.latches) k false ≡ get_or latches k false
        at k lt = get_or-map (λ (l : Latch). bit_of (values_by c (work_out rows table)) l.literal) c.latches k no_latch
            false lt ∙ value_at (work_out rows table) (length c.inputs + k) (omega (arith, length-definitions c))
            (definitions_latch c k lt) ∙ kept (suc (length c.inputs + k)) (omega arith)
            ∙ ap (λ p. get_or table p false) (omega arith) ∙ holds.latches_there k (omega arith)

    gate_holds : (i : ℕ) → i < length c.gates → MeetsGate (values_by c (work_out rows table)) (get_or c.gates i no_gate)
    gate_holds i lt =
        let there = row_of_gate is are i lt in
        let g = get_or c.gates i no_gate in
        let all = work_out rows table in
        let is_row : numbered_row rows there.0 ≡ row_at c i = row_is is are there.0 there.1 ∙ ap (row_at c) there.2 in
        let work : get_or all (numbered_row rows there.0).target false ≡ (read all (numbered_row rows there.0).first &&
        read all (numbered_row rows there.0).second) =
        search (rules, work_out-row, IsScheduled-rows, IsRowInTable-row) in
        let P : Row → Type 0 = λ r. get_or all r.target false ≡ (read all r.first && read all r.second) in
        let work_there : get_or all (place_of_variable c (variable g.literal)) false ≡
        (read all (wire_of c g.first) && read all (wire_of c g.second)) = subst P is_row work in
        let sides = sides_known is i no_gate lt in
        let here = length c.inputs + length c.latches + i in
        let many : here < length (definitions c) = omega (arith, length-definitions c) in
        grind (
          arith,
          value_at all here many (definitions_gate c i lt),
          place_of-definition is here many
              (definitions_gate c i lt),
          bit_of-values_by all g.first sides.0,
          bit_of-values_by all g.second sides.1,
        )

    -- after the evaluation of the plan's rows, the table of values has the values of the circuit
    pub AreValues-work_out : AreValues c inputs latches (values_by c (work_out rows table))
    AreValues-work_out = record {
      each = length-map-range_with_len (λ v. get_or (work_out rows table) (place_of_variable c v) false) 0 (c.most + 1);
      constant = search (rules, get_or-map-range_with_len, place_of-at, length-variables, kept);
      inputs_are = inputs_hold;
      latches_are = latches_hold;
      gates_are = All-from_get_or (MeetsGate (values_by c (work_out rows table))) c.gates no_gate gate_holds;
    }

-- the table of values before any row is evaluated
abbrev pub first_table : CircuitData → List Bool → List Bool → List Bool
first_table c inputs latches = false ∷ inputs ++ latches ++ replicate (length c.gates) false

pub HasSources-first_table : (c : CircuitData) (inputs latches : List Bool) →
    HasSources inputs latches (first_table c inputs latches)
HasSources-first_table c inputs latches = grind (arith, get_or_append_left, length-append, get_or-append-add)
