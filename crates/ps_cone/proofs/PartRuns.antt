-- A circuit and a part of it run alike.
use Rattle.std.proofs.Common.{◌≡◌, ◌+◌, Bool, List, [], ◌∷◌, length, map, get_or, refl, ap, sym}
use Rattle.std.proofs.Common.{◌∙◌, ℕ, subst}
use Rattle.std.proofs.lemmas.List.{get_or_default, length-map}
use Rattle.ps_circuit.specs.declared.parts.Gate.{Gate}
use Rattle.ps_circuit.specs.declared.parts.Latch.{Latch}
use Rattle.ps_circuit.specs.Circuits.{CircuitData}
use Rattle.ps_circuit.specs.Values.{AreValues, GoesOn, HasOneValues, MeetsGate, Moment, Steps, bit_of, resets}
use Rattle.ps_simulate.proofs.UniqueVerdicts.OneTrace.{firsts_agree}
use Rattle.ps_traces.proofs.CircuitRuns.{Step, step}
use Rattle.ps_traces.specs.Traces.{IsLassoTrace}
use Rattle.ps_cone.proofs.SelectedLemmas.{map-selected}
use Rattle.ps_cone.specs.Parts.{IsPartOf, IsRunOfPart, moment_of, moments_of, selected}

module _ {c : CircuitData} {kept : List Bool} {part : CircuitData} (p : IsPartOf c kept part) where
  pub resets_of_part : resets part ≡ selected kept (resets c)
  resets_of_part = ap (map (λ (l : Latch). l.reset)) p.latches ∙ map-selected (λ (l : Latch). l.reset) kept c.latches

  -- the circuit's values are values of the part
  values_of_part : {inputs latches values : List Bool} → AreValues c inputs latches values →
      AreValues part inputs (selected kept latches) values
  values_of_part {inputs} {latches} {values} v = record {
    each = v.each ∙ ap (λ n. n + 1) (sym p.most);
    constant = v.constant;
    inputs_are = ap (map (bit_of values)) p.inputs ∙ v.inputs_are;
    latches_are = ap (map (λ (l : Latch). bit_of values l.literal)) p.latches
        ∙ map-selected (λ (l : Latch). bit_of values l.literal) kept c.latches
        ∙ ap (selected kept) v.latches_are;
    gates_are = λ k d lt.
        let g = get_or part.gates k d in
        let there = p.gates g (k, lt, get_or_default part.gates k g d lt) in
        let P : Gate → Type 0 = MeetsGate values in
        subst P there.2 (v.gates_are there.0 g there.1);
  }

  pub step_of_part : {latches inputs outputs next : List Bool} → Steps c latches inputs outputs next →
      Steps part (selected kept latches) inputs outputs (selected kept next)
  step_of_part {latches} {inputs} {outputs} {next} s = record {
    values = s.values;
    are_values = values_of_part s.are_values;
    outputs_are = s.outputs_are ∙ ap (map (bit_of s.values)) (sym p.outputs);
    next_are = ap (selected kept) s.next_are
        ∙ sym (map-selected (λ (l : Latch). bit_of s.values l.next) kept c.latches)
        ∙ ap (map (λ (l : Latch). bit_of s.values l.next)) (sym p.latches);
  }

  pub run_of_part : (from : List Bool) (moments : List Moment) (to : List Bool) → GoesOn c from moments to →
      GoesOn part (selected kept from) (moments_of kept moments) (selected kept to)
  run_of_part from [] to goes = ap (selected kept) goes
  run_of_part from (m ∷ ms) to goes = (
    selected kept goes.0,
    ap (selected kept) goes.1,
    step_of_part goes.2,
    run_of_part goes.0 ms to goes.3,
  )

  pub lasso_of_part : (stem lap : List Moment) → IsLassoTrace c stem lap →
      IsLassoTrace part (moments_of kept stem) (moments_of kept lap)
  lasso_of_part stem lap trace = record {
    some = rw (length-map lap (moment_of kept)) trace.some;
    back = selected kept trace.back;
    goes_there = rw resets_of_part (run_of_part (resets c) stem trace.back trace.goes_there);
    comes_back = run_of_part trace.back lap trace.back trace.comes_back;
  }

  module _ (one : HasOneValues c) (one_of_part : HasOneValues part) where
    -- each step of the part arises from a step of the circuit
    pub run_of_whole : (from : List Bool) (moments : List Moment) (to : List Bool) → length from ≡ length c.latches →
        GoesOn part (selected kept from) moments to → IsRunOfPart c kept from moments to
    run_of_whole from [] to wide goes = record {
      whole = [];
      last = from;
      goes_on = refl;
      moments_are = refl;
      last_is = sym goes;
    }
    run_of_whole from (m ∷ ms) to wide goes =
        let inputs_wide : length m.inputs ≡ length c.inputs =
        ap (λ (bs : List Bool). length bs) (sym goes.2.are_values.inputs_are)
        ∙ length-map part.inputs (bit_of goes.2.values) ∙ ap (λ (ls : List ℕ). length ls) p.inputs in
        let s : Step c from m.inputs = step c one from m.inputs wide inputs_wide in
        let made : Moment = record { latches = from; inputs = m.inputs; outputs = s.outputs } in
        let agree = firsts_agree part p.is_circuit one_of_part (selected kept from) goes.0 (selected kept s.next) m
        (moment_of kept made) goes.1 refl goes.2 (step_of_part s.steps) refl in
        let rest = run_of_whole s.next ms to s.next_wide (rw (← agree.1) goes.3) in
        record {
          whole = made ∷ rest.whole;
          last = rest.last;
          goes_on = (s.next, refl, s.steps, rest.goes_on);
          moments_are = λ i. agree.0 i ∷ rest.moments_are i;
          last_is = rest.last_is;
        }
