-- Whether a circuit wins follows from which of its words are accepted.
-- - `refuted`: if the automaton rejects the word of a lasso trace of a controller, or accepts the word of a lasso trace
--   of an environment, the inputs that the trace reads are a counterexample
-- - `winning_by`: a controller's circuit wins if all words of its lasso traces are accepted; an environment's circuit
--   wins if none of them is accepted
use Rattle.std.proofs.Common.{◌≡◌, ℕ, zero, suc, ◌<◌, ◌↔◌, Bool, List, [], ◌∷◌, Some, length, get_or}
use Rattle.std.proofs.Common.{refl, sym, ap, subst, ◌∙◌, arith}
use Rattle.std.proofs.lemmas.List.{length-map}
use Rattle.ps_hoa.specs.Files.{FileData}
use Rattle.ps_hoa.specs.Sound.{AreNames}
use Rattle.ps_automaton.specs.Acceptance.{IsAccepted}
use Rattle.ps_automaton.specs.Autos.{Auto, IsAutoOf}
use Rattle.ps_automaton.specs.Chains.{Chain, chain_of}
use Rattle.ps_circuit.specs.Circuits.{CircuitData, IsCircuit}
use Rattle.ps_circuit.specs.Values.{Moment, GoesOn, HasOneValues, bit_of, resets}
use Rattle.ps_machine.specs.declared.key.Order.{Order}
use Rattle.ps_simulate.specs.Stimuli.{StimulusData}
use Rattle.ps_simulate.specs.Symbols.{HasSymbols}
use Rattle.ps_simulate.specs.declared.role.Role.{Role}
use Rattle.ps_simulate.specs.declared.role.Role.TheVariants.{Controller, Environment}
use Rattle.ps_simulate.proofs.LapsOfRuns.LassoLemmas.{few_letters, length_letters}
use Rattle.ps_traces.specs.Inputs.{inputs_of}
use Rattle.ps_traces.specs.Shapes.{IsInTimeWhereReached}
use Rattle.ps_traces.specs.Traces.{IsLassoWord, AllAccepted, NoneAccepted}
use Rattle.ps_traces.proofs.Inputs.{each_goes_on}
use Rattle.ps_traces.proofs.StepLetters.{has_letters}
use Rattle.ps_traces.proofs.OneMeeting.{meeting_is_one}
use Rattle.ps_traces.proofs.Rejected.{meeting_is_rejected}
use Rattle.ps_verify.specs.Judgements.{IsLosing, IsWinning}
use Rattle.ps_verify.specs.Stimulated.{IsWordOn}
use Rattle.ps_verify.proofs.OneAcceptance.{accepted_too}
use Rattle.ps_verify.proofs.TracesOn.{same_word}

-- ## A word that shows that a circuit loses

-- the inputs that a trace reads have a bit for each input of the circuit
pub inputs_wide : (c : CircuitData) (from to : List Bool) (ms : List Moment) → GoesOn c from ms to →
    (k : ℕ) (d : List Bool) → k < length (inputs_of ms) → length (get_or (inputs_of ms) k d) ≡ length c.inputs
inputs_wide c from to [] goes k d within = absurd (omega arith)
inputs_wide c from to (m ∷ ms) (next, at, steps, rest) zero d within =
    ap length (sym steps.are_values.inputs_are) ∙ length-map c.inputs (bit_of steps.values)
inputs_wide c from to (m ∷ ms) (next, at, steps, rest) (suc k) d within =
    inputs_wide c next to ms rest k d (omega arith)

module _ {role : Role} {file : FileData} {chain : Chain} {auto : Auto} {c : CircuitData}
    (is_chain : chain_of file.condition ≡ Some chain) (is_auto : IsAutoOf file chain auto) (is_circuit : IsCircuit c)
    (one : HasOneValues c) (symbols : HasSymbols role file.names file.controllable c) where
  -- of two lasso traces that read one stimulus, both words are accepted, or none
  accepted_as : {s : StimulusData} {stem lap other_stem other_lap : List ℕ} → IsWordOn file.names c s stem lap →
      IsWordOn file.names c s other_stem other_lap → IsAccepted file stem lap → IsAccepted file other_stem other_lap
  accepted_as {stem = stem} {lap = lap} {other_stem = other_stem} {other_lap = other_lap} on other =
      let a = on.word in
      let b = other.word in
      let names = file.names in
      accepted_too is_chain is_auto stem lap other_stem other_lap
      (omega (arith, length_letters names c a.lap_moments lap a.lap_letters, a.trace.some))
      (few_letters names c a.stem_moments stem a.stem_letters) (few_letters names c a.lap_moments lap a.lap_letters)
      (omega (arith, length_letters names c b.lap_moments other_lap b.lap_letters, b.trace.some))
      (few_letters names c b.stem_moments other_stem b.stem_letters)
      (few_letters names c b.lap_moments other_lap b.lap_letters) (same_word is_circuit one symbols on other)

  pub refuted : (order : Order) {stem lap : List ℕ} → IsInTimeWhereReached order role c →
      (word : IsLassoWord file.names c stem lap) → (IsAccepted file stem lap ↔ (role ≡ Environment)) →
      IsLosing order role file c (record { stem = inputs_of word.stem_moments; lap = inputs_of word.lap_moments })
  refuted order {stem} {lap} in_time word wrong =
      let here : IsWordOn file.names c
      (record { stem = inputs_of word.stem_moments; lap = inputs_of word.lap_moments }) stem lap =
      record { word = word; reads = λ t. refl } in
      record {
        symbols = symbols;
        in_time = in_time;
        wide = record {
          stem_is = inputs_wide c (resets c) word.trace.back word.stem_moments word.trace.goes_there;
          lap_is = inputs_wide c word.trace.back word.trace.back word.lap_moments word.trace.comes_back;
        };
        some = omega (arith, length-map word.lap_moments (λ (m : Moment). m.inputs), word.trace.some);
        word = record { stem = stem; lap = lap };
        is_word = here;
        is_wrong = λ other_stem other_lap on. (
          λ accepted. wrong.0 (accepted_as on here accepted),
          λ same. accepted_as here on (wrong.1 same),
        );
      }

-- ## A circuit that wins

pub winning_by : (order : Order) (role : Role) {file : FileData} {c : CircuitData} →
    (role ≡ Controller → AllAccepted file c) → (role ≡ Environment → NoneAccepted file c) → AreNames file.names →
    IsCircuit c → HasOneValues c → HasSymbols role file.names file.controllable c →
    IsInTimeWhereReached order role c → IsWinning order role file c
winning_by order role {file} {c} all none are_names is_circuit one symbols in_time = record {
  symbols = symbols;
  in_time = in_time;
  accepted = all;
  rejected = none;
  goes_on = each_goes_on c one;
  letters = has_letters are_names symbols;
  meetings = λ same k controller.
      (let symbols_there = subst (λ (r : Role). HasSymbols r file.names file.controllable c) same symbols in
      let in_time_there = subst (λ (r : Role). IsInTimeWhereReached order r c) same in_time in
      record {
        one = λ count. meeting_is_one order c k count is_circuit one in_time_there controller;
        rejected =
            meeting_is_rejected order file c k are_names one symbols_there in_time_there controller (none same);
      });
}
