-- Facts about a circuit's variables and the places by which they are numbered: the constant, the inputs, the latches,
-- the gates.
use Rattle.std.proofs.Common.{◌≡◌, ℕ, suc, ◌+◌, ◌-◌, ◌<◌, ◌⊎◌, inl, inr, Bool, true, false, List}
use Rattle.std.specs.Prelude.{if◌then◌else◌, nat_le}
use Rattle.std.proofs.Common.{length, get_or, refl, ap, sym, ◌∙◌, arith}
use Rattle.std.proofs.lemmas.Bool.{cases_lt}
use Rattle.std.proofs.lemmas.List.{get_or-map}
use Rattle.std.proofs.lemmas.Option.{slice_get-get_or}
use Rattle.std.proofs.Math.Bool.{and_comm}
use Rattle.ps_label.specs.Truth.{is_in}
use Rattle.ps_circuit.specs.declared.parts.Gate.{Gate}
use Rattle.ps_circuit.specs.Circuits.{CircuitData, IsCircuit, IsKnown, definitions}
use Rattle.ps_circuit.specs.Literals.{variable}
use Rattle.ps_circuit.specs.Values.{AreValues, bit_of, value_of}
use Rattle.ps_product.specs.Inner.Nets.{IsBelow, IsGateAt, front_of, read_at, sides_of, value_at}
use Rattle.ps_product.specs.Truths.{bits_at}
use Rattle.ps_simulate.specs.declared.plan.Wire.{Wire}
use Rattle.ps_simulate.specs.Plans.{no_gate, variables, place_of_variable, wire_of}
use Rattle.ps_simulate.proofs.EvaluationPlans.PlacesLemmas.{place_known, sides_known, variables_at}
use Rattle.ps_simulate.proofs.EvaluationPlans.RowLemmas.{definitions_gate, definitions_input, definitions_latch}
use Rattle.ps_simulate.proofs.EvaluationPlans.RowLemmas.{length-definitions}
use Rattle.ps_simulate.proofs.EvaluationPlans.RowLemmas.{length-variables, no_latch}
use Rattle.ps_simulate.proofs.EvaluationPlans.ValueLemmas.{bit_of-definition}

-- the two literals that a gate reads may be exchanged
either_order : (c : CircuitData) (place : ℕ) (first second : Wire) →
    IsGateAt c place (record { first = first; second = second }) →
    IsGateAt c place (record { first = second; second = first })
either_order c place first second g = record {
  first_below = g.second_below;
  second_below = g.first_below;
  meets = λ inputs latches values are.
      g.meets inputs latches values are ∙ and_comm (read_at c values first) (read_at c values second);
}

-- the two literals that a gate reads may be put in the order of their variables' places
ordered : (c : CircuitData) (place : ℕ) (one other : Wire) (b : Bool) →
    IsGateAt c place (record { first = one; second = other }) →
    IsGateAt c place (if b then record { first = one; second = other } else record { first = other; second = one })
ordered c place one other true g = g
ordered c place one other false g = either_order c place one other g

module _ {c : CircuitData} (is : IsCircuit c) where
  -- a literal that refers to its variable by the variable's index has the same bit as the original literal
  pub read_is : (values : List Bool) (literal : ℕ) → IsKnown (definitions c) literal →
      read_at c values (wire_of c literal) ≡ bit_of values literal
  read_is values literal known = rw (place_known is literal known).1 refl

  -- the variable with the index k + 1 has the value of the literal at the index k in `definitions c`; the variable with
  -- the index 0 is the constant
  value_defined : (values : List Bool) (k : ℕ) {literal : ℕ} → k < length (definitions c) →
      get_or (definitions c) k 0 ≡ literal → value_at c values (suc k) ≡ bit_of values literal
  value_defined values k {literal} lt e =
      ap (value_of values) (variables_at is k 0 lt ∙ ap variable e) ∙ sym (bit_of-definition is values k lt e)

  -- ## Places before those of the gates

  pub constant_at : (inputs latches values : List Bool) → AreValues c inputs latches values →
      value_at c values 0 ≡ false
  constant_at inputs latches values are = are.constant

  pub input_at : (propositions : List ℕ) (letter : ℕ) (latches values : List Bool) (k : ℕ) →
      AreValues c (bits_at propositions letter) latches values → k < length c.inputs →
      length propositions ≡ length c.inputs → value_at c values (suc k) ≡ is_in (get_or propositions k 0) letter
  input_at propositions letter latches values k are lt each =
      value_defined values k (omega (arith, length-definitions c)) (definitions_input c k lt)
      ∙ sym (get_or-map (bit_of values) c.inputs k 0 false lt)
      ∙ ap (λ (bits : List Bool). get_or bits k false) are.inputs_are
      ∙ get_or-map (λ p. is_in p letter) propositions k 0 false (omega arith)

  pub latch_at : (inputs latches values : List Bool) (k : ℕ) → AreValues c inputs latches values →
      k < length c.latches → value_at c values (suc (length c.inputs + k)) ≡ get_or latches k false
  latch_at inputs latches values k are lt =
      value_defined values (length c.inputs + k) (omega (arith, length-definitions c)) (definitions_latch c k lt)
      ∙ sym (get_or-map (λ l. bit_of values l.literal) c.latches k no_latch false lt)
      ∙ ap (λ (bits : List Bool). get_or bits k false) are.latches_are

  -- ## Gates

  abbrev gate : ℕ → Gate
  gate i = get_or c.gates i no_gate

  place_of_gate : (i : ℕ) → i < length c.gates → get_or (variables c) (front_of c + i) 0 ≡ variable (gate i).literal
  place_of_gate i lt =
      let at : front_of c + i ≡ suc (length c.inputs + length c.latches + i) = omega arith in
      ap (λ p. get_or (variables c) p 0) at
      ∙ variables_at is (length c.inputs + length c.latches + i) 0 (omega (arith, length-definitions c))
      ∙ ap variable (definitions_gate c i lt)

  -- the variables that a gate reads come before the gate in the order of evaluation
  lies_below : (i place literal : ℕ) → place ≡ front_of c + i → i < length c.gates → IsKnown (definitions c) literal →
      (variable (gate i).first ≡ variable literal) ⊎ (variable (gate i).second ≡ variable literal) →
      IsBelow c place (place_of_variable c (variable literal))
  lies_below i place literal at lt known side =
      let there = place_known is literal known in
      let lower = place_of_variable c (variable literal) in
      record {
        behind = omega arith;
        within = there.0;
        below = elim (cases_lt lower (front_of c)) [
          | inl less ↦ inl less
          | inr ge ↦
              let j = lower - front_of c in
              let within : j < length c.gates = omega (arith, there.0, length-variables c) in
              let same : lower ≡ front_of c + j = omega arith in
              let own_place : place - front_of c ≡ i = omega arith in
              let own : variable literal ≡ variable (gate j).literal =
              sym there.1 ∙ ap (λ p. get_or (variables c) p 0) same ∙ place_of_gate j within in
              inr (
                ge,
                record {
                  reader = gate i;
                  read = gate j;
                  at_i = rw own_place (slice_get-get_or c.gates i no_gate lt);
                  at_j = slice_get-get_or c.gates j no_gate within;
                  side = elim side [ inl e ↦ inl (e ∙ own) | inr e ↦ inr (e ∙ own) ];
                },
              )
        ];
      }

  gate_there : (i place : ℕ) → place ≡ front_of c + i → i < length c.gates →
      IsGateAt c place (record { first = wire_of c (gate i).first; second = wire_of c (gate i).second })
  gate_there i place at lt =
      let here : place ≡ suc (length c.inputs + length c.latches + i) = omega arith in
      let known = sides_known is i no_gate lt in
      let g = gate i in
      record {
        first_below = lies_below i place g.first at lt known.0 (inl refl);
        second_below = lies_below i place g.second at lt known.1 (inr refl);
        meets = λ inputs latches values are. ap (value_at c values) here
            ∙ value_defined values (length c.inputs + length c.latches + i) (omega (arith, length-definitions c))
            (definitions_gate c i lt) ∙ are.gates_are i no_gate lt
            ∙ cc (read_is values g.first known.0, read_is values g.second known.1);
      }

  pub gate_at : (i place : ℕ) → place ≡ front_of c + i → i < length c.gates → IsGateAt c place (sides_of c (gate i))
  gate_at i place at lt =
      let one = wire_of c (gate i).first in
      let other = wire_of c (gate i).second in
      ordered c place one other (nat_le one.place other.place) (gate_there i place at lt)
