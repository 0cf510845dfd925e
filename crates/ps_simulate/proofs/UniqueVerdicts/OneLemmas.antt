-- For given inputs and latches, the values of a circuit exist, and are unique at each variable that is 0 or defined.
use Rattle.std.proofs.Common.{◌≡◌, ℕ, zero, suc, ◌+◌, ◌-◌, ◌⊎◌, ◌%◌, ◌<◌, ◌≤◌, ◌==◌, Bool, false, not, cond, inl, inr}
use Rattle.std.proofs.Common.{List, length, get_or, refl, sym, ap, subst, ◌∙◌, arith, rules, length-append}
use Rattle.std.proofs.lemmas.List.{length-map, length-replicate, get_or-map}
use Rattle.std.proofs.lemmas.Bool.{cases_lt}
use Rattle.std.proofs.lemmas.Option.{slice_get-get_or}
use Rattle.ps_circuit.specs.declared.parts.Latch.{Latch}
use Rattle.ps_components.specs.Orders.{IsOrder}
use Rattle.ps_circuit.specs.Circuits.{CircuitData, IsCircuit, IsKnown, ReadsGate, definitions}
use Rattle.ps_circuit.specs.Literals.{variable}
use Rattle.ps_circuit.specs.Values.{AreValues, HasOneValues, value_of, bit_of}
use Rattle.ps_simulate.specs.Plans.{no_gate}
use Rattle.ps_simulate.proofs.EvaluationPlans.PlacesLemmas.{sides_known}
use Rattle.ps_simulate.proofs.EvaluationPlans.RowLemmas.{no_latch, length-definitions, length-variables}
use Rattle.ps_simulate.proofs.EvaluationPlans.RowLemmas.{definitions_input}
use Rattle.ps_simulate.proofs.EvaluationPlans.RowLemmas.{definitions_latch, definitions_gate}
use Rattle.ps_simulate.proofs.EvaluationPlans.ValueLemmas.{bit_of-definition, HasSources-first_table}
use Rattle.ps_simulate.proofs.EvaluationPlans.ValueLemmas.{AreValues-work_out}

module _ {c : CircuitData} (is : IsCircuit c) {order : List ℕ}
    (is_order : IsOrder (ReadsGate c.gates) (length c.gates) order) {inputs latches values others : List Bool}
    (a : AreValues c inputs latches values) (b : AreValues c inputs latches others) where
  abbrev Same : ℕ → Type 0
  Same v = value_of values v ≡ value_of others v

  bit_same : (literal : ℕ) → Same (variable literal) → bit_of values literal ≡ bit_of others literal
  bit_same literal e = ap (λ (x : Bool). cond (literal % 2 == 1) (not x) x) e

  -- if two lists of values agree at a literal that defines a variable, they also agree at this variable
  at_definition : (k : ℕ) {literal : ℕ} → k < length (definitions c) → get_or (definitions c) k 0 ≡ literal →
      bit_of values literal ≡ bit_of others literal → Same (variable literal)
  at_definition k {literal} lt e same = search (rules, bit_of-definition)

  input_same : (k : ℕ) → k < length c.inputs → Same (variable (get_or c.inputs k 0))
  input_same k lt = grind (
    arith,
    length-definitions c,
    definitions_input c k lt,
    get_or-map (bit_of values) c.inputs k 0 false lt,
    get_or-map (bit_of others) c.inputs k 0 false lt,
  )

  latch_same : (k : ℕ) → k < length c.latches → Same (variable (get_or c.latches k no_latch).literal)
  latch_same k lt = at_definition (length c.inputs + k) (omega (arith, length-definitions c)) (definitions_latch c k lt)
      (sym (grind (arith, get_or-map)) ∙ ap (λ bits. get_or bits k false) (a.latches_are ∙ sym b.latches_are)
      ∙ get_or-map (λ (l : Latch). bit_of others l.literal) c.latches k no_latch false lt)

  -- two lists of values agree at a literal's variable if it is 0, or if an input or a latch defines it; for a gate's
  -- variable, their agreement is a premise of the lemma
  side_same : (literal : ℕ) → IsKnown (definitions c) literal
      → ((i : ℕ) → i < length c.gates → variable literal ≡ variable (get_or c.gates i no_gate).literal →
      Same (variable literal)) → Same (variable literal)
  side_same literal (inl e) gate = rw e (a.constant ∙ sym b.constant)
  side_same literal (inr (k, lt, e)) gate = grind (arith, which, cases_lt)
    where
      within : k < length (definitions c)
      within = omega (arith, lt, length-map (definitions c) variable)

      same : variable (get_or (definitions c) k 0) ≡ variable literal
      same = sym (get_or-map variable (definitions c) k 0 (variable literal) within) ∙ e

      which : (k < length c.inputs) ⊎ (length c.inputs ≤ k) → (k < length c.inputs + length c.latches) ⊎
          (length c.inputs + length c.latches ≤ k) → Same (variable literal)
      which (inl first) _ = subst Same (ap variable (sym (definitions_input c k first)) ∙ same) (input_same k first)
      which (inr behind) (inl second) = (let j = k - length c.inputs in
          let less : j < length c.latches = omega arith in
          let there : length c.inputs + j ≡ k = omega arith in
          rw (ap variable (sym (definitions_latch c j less) ∙ ap (λ n. get_or (definitions c) n 0) there) ∙ same) at
          (latch_same j less))
      which (inr behind) (inr third) = (let i = k - (length c.inputs + length c.latches) in
          let less : i < length c.gates = omega (arith, within, length-definitions c) in
          let there : length c.inputs + length c.latches + i ≡ k = omega arith in
          gate i less (sym (ap variable (grind (arith, definitions_gate)) ∙ same)))

  -- two lists of values agree at each gate whose position in the order of evaluation is below n
  gates_same : (n i : ℕ) (less : i < length c.gates) → (is_order.each i less).0 < n →
      Same (variable (get_or c.gates i no_gate).literal)
  gates_same zero i less lt = absurd (omega arith)
  gates_same (suc n) i less lt =
      let g = get_or c.gates i no_gate in
      let sides = sides_known is i no_gate less in
      let here = is_order.each i less in
      let earlier : (literal : ℕ) → (variable g.first ≡ variable literal) ⊎ (variable g.second ≡ variable literal) →
      (j : ℕ) → j < length c.gates → variable literal ≡ variable (get_or c.gates j no_gate).literal →
      Same (variable literal) = (λ literal side j within e.
      let there = is_order.each j within in
      let lower : there.0 < here.0 = is_order.behind here.0 there.0 i j here.1 there.1 (grind (arith, slice_get-get_or))
      in rw e (gates_same n j within (omega arith))) in
      grind (
        arith,
        bit_same g.first (side_same g.first sides.0 (earlier g.first (inl refl))),
        bit_same g.second
            (side_same g.second sides.1 (earlier g.second (inr refl))),
        length-definitions c,
        definitions_gate c i less,
      )

  pub bit_of-one : (literal : ℕ) → IsKnown (definitions c) literal → bit_of values literal ≡ bit_of others literal
  bit_of-one literal known = bit_same literal (side_same literal known
      (λ i less e. rw e (gates_same (suc (is_order.each i less).0) i less (omega arith))))

pub HasOneValues-circuit : {c : CircuitData} → IsCircuit c → {order : List ℕ} →
    IsOrder (ReadsGate c.gates) (length c.gates) order → HasOneValues c
HasOneValues-circuit {c} is {order} is_order = record {
  some = λ inputs latches many_inputs many_latches. (
    _,
    AreValues-work_out is (record { is_circuit = is; order = order; is_order = is_order; each = refl }) (grind (
      arith,
      length-variables,
      length-append,
      length-replicate,
    )) many_inputs many_latches (HasSources-first_table c inputs latches),
  );
  one = λ inputs latches values others a b. bit_of-one is is_order a b;
}
