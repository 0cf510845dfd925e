-- The circuit that is made of the needed parts is the cone of its outputs.
use Rattle.std.proofs.Common.{◌≡◌, ◌+◌, ◌≤◌, ◌∙◌, ℕ, Bool, List, Some, length, get_or, ap, sym, arith, subst, take}
use Rattle.std.proofs.Common.{nat_eq}
use Rattle.std.specs.List.{filter, slice_get}
use Rattle.std.proofs.lemmas.Bool.{eqb-true, ne_eqb}
use Rattle.std.proofs.lemmas.List.{length-map, length-take-le}
use Rattle.std.proofs.lemmas.List.Folds.{Any-from_list_any}
use Rattle.std.proofs.lemmas.Map.Keys.{IsDistinct-from_apart}
use Rattle.std.proofs.lemmas.Map.Steps.{length-le_from_distinct_below}
use Rattle.std.proofs.lemmas.Option.{slice_get-get_or}
use Rattle.ps_circuit.specs.Circuits.{CircuitData, IsCircuit, IsMadeOf}
use Rattle.ps_cone.specs.Cones.{IsCone, reader_of}
use Rattle.ps_cone.specs.Inner.Cuts.{HasPartsOf, gate_at, keeps_gate}
use Rattle.ps_cone.specs.Inner.Needed.{AreNeeded}
use Rattle.ps_cone.specs.Masks.{with_outputs}
use Rattle.ps_cone.specs.Parts.{selected}
use Rattle.ps_cone.proofs.CutLemmas.{gate_from, gate_reader, latch_from, latch_reader, places_differ, size}
use Rattle.ps_cone.proofs.Pairs.{contains_at, filter_from}
use Rattle.ps_cone.proofs.SelectedLemmas.{selected-take}
use Rattle.ps_cone.proofs.SourceLemmas.{slot_of}

module _ (c : CircuitData) (is : IsCircuit c) (needed : List Bool) (n : AreNeeded c needed) (cut : CircuitData)
    (h : HasPartsOf c c.outputs needed cut) where
  -- the chosen places of gates are different, and each is that of a gate
  few_gates : length cut.gates ≤ length c.gates
  few_gates =
      let places = filter (keeps_gate c needed) h.gates.order in
      let few = length-le_from_distinct_below places (length c.gates)
      (IsDistinct-from_apart nat_eq places (λ i j d less lt.
      ne_eqb (get_or places i d) (get_or places j d) (places_differ c is needed n cut h i j d less lt)))
      (λ q any.
      let at = Any-from_list_any (nat_eq q) places any in
      let there : slice_get places at.0 ≡ Some (get_or places at.0 at.1) = slice_get-get_or places at.0 at.1 at.2 in
      let f = filter_from (keeps_gate c needed) h.gates.order at.0 (get_or places at.0 at.1) there in
      let within = h.gates.is_order.within f.0 (get_or places at.0 at.1) f.1 in
      let e : q ≡ at.1 = eqb-true q at.1 at.4 in
      let same = at.3 in
      omega (arith, within, e, same)) in
      omega (arith, few, ap length h.gates.gates_are, length-map places (gate_at c))

  cone_of_cut : IsCircuit cut → IsCone c cut
  cone_of_cut well = record {
    kept = take (length c.latches) needed;
    part = record {
      is_circuit = well;
      one_each = length-take-le (length c.latches) needed (omega (arith, size c is needed n cut h));
      most = h.most;
      inputs = h.inputs;
      latches = h.latches ∙ sym (selected-take needed c.latches);
      outputs = h.outputs;
      gates = λ g there.
          let r = gate_from c is needed n cut h there.0 g (slot_of cut.gates g there) in
          contains_at c.gates r.place g r.at;
      few_gates = few_gates;
      input_names = h.input_names;
      latch_names = h.latch_names ∙ sym (selected-take needed c.latch_names)
          ∙ ap (λ m. selected (take m needed) c.latch_names) is.draft.latches_named;
      output_names = h.output_names;
    };
    latches_needed = λ l there.
        let r = latch_from c is needed n cut h there.0 l (slot_of cut.latches l there) in
        n.marked r.0 (reader_of l) (latch_reader c r.0 l r.1) r.2;
    gates_needed = λ g there.
        let r = gate_from c is needed n cut h there.0 g (slot_of cut.gates g there) in
        n.marked (length c.latches + r.place) g (gate_reader c r.place g r.at) r.flag;
  }

  pub is_cone : (made : CircuitData) → IsMadeOf cut made → IsCone c made
  is_cone made m = subst (IsCone c) (sym m.is) (cone_of_cut (subst IsCircuit m.is m.well_formed))

-- the needed parts of a circuit, as those of the circuit with other outputs
pub parts_with : {c cut : CircuitData} {given : List ℕ} {needed : List Bool} → HasPartsOf c given needed cut →
    HasPartsOf (with_outputs c given) given needed cut
parts_with h = record {
  most = h.most;
  inputs = h.inputs;
  latches = h.latches;
  outputs = h.outputs;
  gates = record { order = h.gates.order; is_order = h.gates.is_order; gates_are = h.gates.gates_are };
  input_names = h.input_names;
  latch_names = h.latch_names;
  output_names = h.output_names;
}
