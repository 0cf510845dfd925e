-- At latches that traces reach, the outputs of a circuit depend on its inputs if and only if those of a part of it do.
-- - `sees_in_part`, `sees_in_whole`: if the outputs of one of them do not depend on the inputs, nor do the other's
use Rattle.std.proofs.Common.{◌≡◌, ◌∙◌, Bool, List, length, refl, sym, ap, subst, ℕ}
use Rattle.std.proofs.lemmas.List.{length-map}
use Rattle.ps_circuit.specs.declared.parts.Latch.{Latch}
use Rattle.ps_circuit.specs.Circuits.{CircuitData}
use Rattle.ps_circuit.specs.Values.{HasOneValues, Moment, Steps, bit_of, resets}
use Rattle.ps_simulate.proofs.LapsOfRuns.LassoLemmas.{goes_wide}
use Rattle.ps_simulate.proofs.UniqueVerdicts.OneTrace.{firsts_agree}
use Rattle.ps_traces.proofs.CircuitRuns.{Step, step}
use Rattle.ps_traces.specs.Shapes.{IsReachedByTrace, SeesNoInputWhereReached}
use Rattle.ps_cone.proofs.PartRuns.{resets_of_part, run_of_part, run_of_whole, step_of_part}
use Rattle.ps_cone.specs.Parts.{IsPartOf, IsRunOfPart, moments_of, selected}

module _ {c : CircuitData} {kept : List Bool} {part : CircuitData} (p : IsPartOf c kept part) where
  pub sees_in_whole : SeesNoInputWhereReached part → SeesNoInputWhereReached c
  sees_in_whole sees latches inputs others outputs other_outputs next other_next reached steps other =
      let there : IsReachedByTrace part (selected kept latches) = (
        moments_of kept reached.0,
        rw (resets_of_part p) (run_of_part p (resets c) reached.0 latches reached.1),
      ) in
      sees (selected kept latches) inputs others outputs other_outputs (selected kept next) (selected kept other_next)
      there (step_of_part p steps) (step_of_part p other)

  module _ (one : HasOneValues c) (one_of_part : HasOneValues part) where
    -- a step of the circuit with the inputs and the outputs of a step of the part
    record Lifted (latches inputs outputs : List Bool) : Type 0 where
      made : Step c latches inputs
      same : outputs ≡ made.outputs

    lifted : (latches inputs outputs next : List Bool) → length latches ≡ length c.latches →
        Steps part (selected kept latches) inputs outputs next → Lifted latches inputs outputs
    lifted latches inputs outputs next wide steps =
        let inputs_wide : length inputs ≡ length c.inputs =
        ap (λ (bs : List Bool). length bs) (sym steps.are_values.inputs_are)
        ∙ length-map part.inputs (bit_of steps.values) ∙ ap (λ (ls : List ℕ). length ls) p.inputs in
        let made : Step c latches inputs = step c one latches inputs wide inputs_wide in
        let first : Moment = record { latches = selected kept latches; inputs = inputs; outputs = outputs } in
        let second : Moment = record { latches = selected kept latches; inputs = inputs; outputs = made.outputs } in
        let agree = firsts_agree part p.is_circuit one_of_part (selected kept latches) next (selected kept made.next)
        first second refl refl steps (step_of_part p made.steps) refl in
        record { made = made; same = ap (λ (m : Moment). m.outputs) agree.0 }

    pub sees_in_part : SeesNoInputWhereReached c → SeesNoInputWhereReached part
    sees_in_part sees latches inputs others outputs other_outputs next other_next reached steps other =
        let held : length (resets c) ≡ length c.latches = length-map c.latches (λ (l : Latch). l.reset) in
        let run : IsRunOfPart c kept (resets c) reached.0 latches =
        run_of_whole p one one_of_part (resets c) reached.0 latches held (rw (resets_of_part p) at reached.1) in
        let wide = goes_wide c (resets c) run.last run.whole run.goes_on held in
        let a = lifted run.last inputs outputs next wide
        (subst (λ (l : List Bool). Steps part l inputs outputs next) run.last_is steps) in
        let b = lifted run.last others other_outputs other_next wide
        (subst (λ (l : List Bool). Steps part l others other_outputs other_next) run.last_is other) in
        a.same
        ∙ sees run.last inputs others a.made.outputs b.made.outputs a.made.next b.made.next (run.whole, run.goes_on)
        a.made.steps b.made.steps
        ∙ sym b.same
