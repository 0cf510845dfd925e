use Rattle.std.proofs.Common.{arith, ◌∙◌, refl, Bool, List, None, get_or, length, subst, sym, ap}
use Rattle.std.specs.Prelude.{◌||◌}
use Rattle.std.proofs.lemmas.List.{length-map}
use Rattle.ps_circuit.specs.Circuits.{CircuitData}
use Rattle.ps_circuit.specs.Values.{Moment, Steps}
use Rattle.ps_simulate.specs.Lassos.{IsLetterOf}
use Rattle.ps_simulate.specs.Inner.Namings.{names_of, bit_at_place}
use Rattle.ps_simulate.proofs.LapsOfRuns.LassoLemmas.{letter_is, letter_fits, ReadsWord-letter}
use Rattle.ps_simulate.proofs.lassos.read_word.Goals as goal

pub step-requires-clause-inputs_fit : goal.step-requires-clause-inputs_fit
step-requires-clause-inputs_fit c = grind (
  arith,
  letter_fits c.args.word.now c.loop-letter.letter-index
      (length c.args.simulator.now.circuit.inputs) c.requires.wide c.loop-letter-test.true c.letter-item.is,
)

pub loop-letter-preserved : goal.loop-letter-preserved
loop-letter-preserved c =
    let d = c.args.simulator.now.circuit in
    let naming = c.args.naming.now in
    let m : Moment =
    record { latches = c.loop-letter.simulator.latches; inputs = c.deref.result.now; outputs = c.step.new.outputs } in
    let letter : IsLetterOf (names_of naming) d m c.letter.result =
    letter_is m c.letter.result c.requires.is_naming c.letter.ensures.few (λ p. c.letter.ensures.bits p
    ∙ ap (λ (bits : List Bool). bit_at_place bits (get_or naming.inputs.items p None) || bit_at_place m.outputs
    (get_or naming.outputs.items p None)) (c.deref-in-loop-letter.ensures.value ∙ sym c.deref.ensures.value)) in
    let step : Steps d m.latches m.inputs m.outputs c.step.new.self.latches =
    subst (λ (e : CircuitData). Steps e m.latches m.inputs m.outputs c.step.new.self.latches)
    c.loop-letter.invariant.same c.step.ensures.steps in
    record {
      reads = rw c.in_ok-push.ensures.items (ReadsWord-letter c.args.word.now c.loop-letter.letter-index
          c.loop-letter-test.true c.letter-item.is c.deref.ensures.value refl c.loop-letter.invariant.reads step
          letter);
      same = c.step.ensures.circuit ∙ c.loop-letter.invariant.same;
      outputs_fit = ap length step.outputs_are ∙ length-map d.outputs _;
    }
