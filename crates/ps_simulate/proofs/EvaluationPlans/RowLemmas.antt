-- The evaluation plan of a circuit has one row for each gate: the index of the gate's value, and the two literals that
-- the gate reads.
use Rattle.std.proofs.Common.{◌≡◌, ℕ, suc, ◌+◌, ◌<◌, List, ◌++◌, map, length, rules}
use Rattle.std.proofs.Common.{get_or, sym, subst, ap, ◌∙◌, arith, Some, length-append}
use Rattle.std.proofs.lemmas.List.{length-map, get_or-map, get_or_append_left, get_or-append-add}
use Rattle.std.proofs.lemmas.Option.{slice_get-get_or, get_or_from_slice_get, slice_get_within}
use Rattle.ps_circuit.specs.declared.parts.Latch.{Latch}
use Rattle.ps_circuit.specs.Circuits.{CircuitData, IsCircuit, IsKnown, definitions}
use Rattle.ps_circuit.specs.Literals.{variable}
use Rattle.ps_simulate.specs.declared.plan.Row.{Row}
use Rattle.ps_simulate.specs.Plans.{variables, place_of_variable, row_at, no_gate, AreGateRows, IsRowInTable}
use Rattle.ps_simulate.proofs.EvaluationPlans.PlacesLemmas.{variables_at, place_of-at, place_known, gate_known}
use Rattle.ps_simulate.proofs.EvaluationPlans.PlacesLemmas.{sides_known}
use Rattle.ps_simulate.specs.NeededGates.{numbered_row, no_row, IsScheduled}

-- the latch that `get_or` gives for an index outside a list of latches
abbrev pub no_latch : Latch
no_latch = record { literal = 0; next = 0; reset = Rattle.std.proofs.Common.false }

module _ (c : CircuitData) where
  pub definitions_input : (k : ℕ) → k < length c.inputs → get_or (definitions c) k 0 ≡ get_or c.inputs k 0
  definitions_input k lt = grind (arith, get_or_append_left, length-append)

  pub definitions_latch : (k : ℕ) → k < length c.latches → get_or (definitions c) (length c.inputs + k) 0 ≡
      (get_or c.latches k no_latch).literal
  definitions_latch k lt = grind (arith, get_or_append_left, length-append, length-map, get_or-append-add, get_or-map)

  pub definitions_gate : (i : ℕ) → i < length c.gates → get_or (definitions c) (length c.inputs + length c.latches + i)
      0 ≡ (get_or c.gates i no_gate).literal
  definitions_gate i lt =
      let front = c.inputs ++ map (λ l. l.literal) c.latches in
      let many : length front ≡ length c.inputs + length c.latches = grind (arith, length-append, length-map) in
      grind (arith, get_or-append-add, get_or-map)

  pub length-definitions : length (definitions c) ≡ length c.inputs + length c.latches + length c.gates
  length-definitions = grind (arith, length-append, length-map)

  -- the list of a circuit's variables has one entry for the constant and one for each input, latch and gate
  pub length-variables : length (variables c) ≡ length c.inputs + length c.latches + length c.gates + 1
  length-variables = omega (arith, length-definitions, length-map (definitions c) variable)

module _ {c : CircuitData} (is : IsCircuit c) where
  pub place_of-definition : (k : ℕ) {literal : ℕ} → k < length (definitions c) → get_or (definitions c) k 0 ≡ literal →
      place_of_variable c (variable literal) ≡ suc k
  place_of-definition k lt e = ap (place_of_variable c) (ap variable (sym e) ∙ sym (variables_at is k 0 lt))
      ∙ place_of-at is (suc k) (omega (arith, length-map (definitions c) variable))

  pub place_of-gate : (i : ℕ) → i < length c.gates →
      place_of_variable c (variable (get_or c.gates i no_gate).literal) ≡ suc
      (length c.inputs + length c.latches + i)
  place_of-gate i lt = place_of-definition _ (omega (arith, length-definitions c)) (definitions_gate c i lt)

  -- two literals with the same index have the same variable
  pub place_of-same : (l m : ℕ) → IsKnown (definitions c) l → IsKnown (definitions c) m →
      place_of_variable c (variable l) ≡ place_of_variable c (variable m) → variable l ≡ variable m
  place_of-same l m kl km e = search (rules, place_known)

  module _ {rows : List Row} (are : AreGateRows c rows) where
    -- the index of the gate that a row evaluates
    abbrev pub gate_place : ℕ → ℕ
    gate_place k = get_or are.order k 0

    pub length-rows : length rows ≡ length are.order
    length-rows = ap length are.each ∙ length-map are.order (row_at c)

    pub row_is : (k : ℕ) → k < length rows → numbered_row rows k ≡ row_at c (gate_place k)
    row_is k lt = search (rules, no_row, get_or-map, length-rows)

    pub gate_within : (k : ℕ) → k < length rows → gate_place k < length c.gates
    gate_within k lt = are.is_order.within k _ (slice_get-get_or are.order k 0 (omega (arith, length-rows)))

    -- each gate of a circuit has a row in the plan
    pub row_of_gate : (i : ℕ) → i < length c.gates → (k : ℕ) × (k < length rows) × (gate_place k ≡ i)
    row_of_gate i lt =
        let there = are.is_order.each i lt in grind (arith, length-rows, slice_get_within, get_or_from_slice_get)

    pub target_is : (k : ℕ) → k < length rows → (numbered_row rows k).target ≡ suc
        (length c.inputs + length c.latches + gate_place k)
    target_is k lt = ap (λ (r : Row). r.target) (row_is k lt) ∙ place_of-gate (gate_place k) (gate_within k lt)

    reads : (k l literal : ℕ) → k < length rows → l < length rows → IsKnown (definitions c) literal
        → place_of_variable c (variable literal) ≡ (numbered_row rows l).target → variable literal ≡ variable
        (get_or c.gates (gate_place l) no_gate).literal
    reads k l literal hk hl known e = place_of-same literal _ known (gate_known is (gate_place l) no_gate
        (gate_within l hl)) (e ∙ ap (λ (r : Row). r.target) (row_is l hl))

    at : (k : ℕ) → k < length rows → Rattle.std.specs.Prelude.slice_get are.order k ≡ Some (gate_place k)
    at k lt = slice_get-get_or are.order k 0 (omega (arith, length-rows))

    gate_at : (k : ℕ) → k < length rows → Rattle.std.specs.Prelude.slice_get c.gates (gate_place k) ≡ Some
        (get_or c.gates (gate_place k) no_gate)
    gate_at k lt = slice_get-get_or c.gates (gate_place k) no_gate (gate_within k lt)

    pub IsScheduled-rows : IsScheduled rows
    IsScheduled-rows = record {
      once = λ k l hk hl e. grind (arith, target_is k hk, target_is l hl, at k hk, at l hl);
      first_behind = λ k l hk hl e. are.is_order.behind k l (gate_place k) (gate_place l) (at k hk) (at l hl)
          (grind (arith, gate_at, reads, sides_known, gate_within, row_is));
      second_behind = λ k l hk hl e. are.is_order.behind k l (gate_place k) (gate_place l) (at k hk) (at l hl)
          (search (rules, gate_at, reads, sides_known, gate_within, row_is));
    }

    -- the indices that a row of the evaluation plan has are within the table of values
    pub IsRowInTable-row : (k : ℕ) → k < length rows → IsRowInTable (length (variables c)) (numbered_row rows k)
    IsRowInTable-row k lt =
        let sides = sides_known is (gate_place k) no_gate (gate_within k lt) in
        subst (IsRowInTable (length (variables c))) (sym (row_is k lt)) (record {
          target = (place_known is _ (gate_known is (gate_place k) no_gate (gate_within k lt))).0;
          first = (place_known is _ sides.0).0;
          second = (place_known is _ sides.1).0;
        })
