-- Lemmas about the printed trace of a circuit, to which a line is appended for each letter.
use Rattle.std.proofs.Common.{arith, ◌≡◌, ◌+◌, ℕ, Bool, List, [], ◌∷◌, ◌++◌, All, length, take, Some, slice_get, refl}
use Rattle.std.proofs.Common.{sym}
use Rattle.std.proofs.lemmas.Option.{get_or_from_slice_get, slice_get_within}
use Rattle.std.proofs.lemmas.List.{map_push, flat_map_more, take_more}
use Rattle.ps_circuit.specs.Circuits.{CircuitData}
use Rattle.ps_simulate.specs.Simulations.{Simulation}
use Rattle.ps_circuit.specs.Values.{Moment, Steps, GoesOn, resets}
use Rattle.ps_program.specs.Commands.Simulating.{moment_line, HasPrinted, PrintsStep, PrintsTrace}

-- one more step
GoesOn-push : (c : CircuitData) (from between to : List Bool) (ms : List Moment) (m : Moment) → GoesOn c from ms between
    → m.latches ≡ between → Steps c m.latches m.inputs m.outputs to → GoesOn c from (ms ++ m ∷ []) to
GoesOn-push c from between to [] m on same steps = grind arith
GoesOn-push c from between to (n ∷ ms) m (next, at, step, rest) same steps =
    (next, at, step, GoesOn-push c next between to ms m rest same steps)

pub HasPrinted-start : (c : CircuitData) (text : List ℕ) (latches : List Bool) → text ≡ [] → latches ≡ resets c →
    HasPrinted c [] text latches
HasPrinted-start c text latches none is = record { moments = []; goes_on = sym is; inputs_are = refl; text_is = none }

pub HasPrinted-step : (c : CircuitData) (letters : List (List Bool)) (text text' : List ℕ) (before after : Simulation)
    (letter : List Bool) → before.circuit ≡ c
    → HasPrinted c letters text before.latches → PrintsStep before after letter text text' →
    HasPrinted c (letters ++ letter ∷ []) text' after.latches
HasPrinted-step c letters text text' before after letter same h step =
    let m : Moment = record { latches = before.latches; inputs = letter; outputs = step.outputs } in
    record {
      moments = h.moments ++ m ∷ [];
      goes_on = grind (arith, GoesOn-push);
      inputs_are = grind (arith, map_push);
      text_is = grind (arith, flat_map_more moment_line [] h.moments m);
    }

pub PrintsTrace-end : (c : CircuitData) (letters : List (List Bool)) (text : List ℕ) (latches : List Bool) →
    HasPrinted c letters text latches → PrintsTrace c letters text
PrintsTrace-end c letters text latches h = grind arith

-- ---- the trace after one more letter

pub HasPrinted-letter : (c : CircuitData) (letters : List (List Bool)) (i : ℕ) (text text' : List ℕ)
    (before after : Simulation) (letter : List Bool)
    → slice_get letters i ≡ Some letter → before.circuit ≡ c → HasPrinted c (take i letters) text before.latches
    → PrintsStep before after letter text text' → HasPrinted c (take (i + 1) letters) text' after.latches
HasPrinted-letter c letters i text text' before after letter there same h step = grind (
  arith,
  get_or_from_slice_get letters i letter [] there,
  take_more letters i [] (slice_get_within letters i letter there),
  HasPrinted-step c (take i letters) text text' before after letter same h step,
)

pub letter_fits : (letters : List (List Bool)) (i width : ℕ) (letter : List Bool) →
    All (λ letter. length letter ≡ width) letters → slice_get letters i ≡ Some letter → length letter ≡ width
letter_fits letters i width letter fits there = grind (arith, get_or_from_slice_get, slice_get_within)
