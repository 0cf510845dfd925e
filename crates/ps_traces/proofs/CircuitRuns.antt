-- Runs of a circuit that read given letters.
use Rattle.std.proofs.Common.{◌≡◌, Bool, List, [], ◌∷◌, ◌++◌, All, map, length, refl, ap}
use Rattle.std.proofs.lemmas.List.{length-map}
use Rattle.std.proofs.lemmas.List.Elements.{All-head, All-tail}
use Rattle.ps_circuit.specs.Circuits.{CircuitData}
use Rattle.ps_circuit.specs.Values.{Moment, GoesOn, HasOneValues, Steps, bit_of, resets}
use Rattle.ps_simulate.proofs.LapsOfRuns.LassoLemmas.{GoesOn-append}
use Rattle.ps_traces.specs.Inputs.{inputs_of}
use Rattle.ps_traces.specs.Shapes.{IsReachedByTrace}

-- a step of the circuit with the given latches and inputs
pub record Step (c : CircuitData) (latches inputs : List Bool) : Type 0 where
  pub outputs : List Bool
  pub next : List Bool
  pub steps : Steps c latches inputs outputs next
  pub outputs_wide : length outputs ≡ length c.outputs
  pub next_wide : length next ≡ length c.latches

pub step : (c : CircuitData) → HasOneValues c → (latches inputs : List Bool) → length latches ≡ length c.latches →
    length inputs ≡ length c.inputs → Step c latches inputs
step c one latches inputs held wide =
    let values = one.some inputs latches wide held in
    record {
      outputs = map (bit_of values.0) c.outputs;
      next = map (λ l. bit_of values.0 l.next) c.latches;
      steps = record { values = values.0; are_values = values.1; outputs_are = refl; next_are = refl };
      outputs_wide = length-map c.outputs (bit_of values.0);
      next_wide = length-map c.latches (λ l. bit_of values.0 l.next);
    }

abbrev pub IsWide : CircuitData → List Bool → Type 0
IsWide c letter = length letter ≡ length c.inputs

-- a run of the circuit that reads the given letters
pub record Run (c : CircuitData) (from : List Bool) (word : List (List Bool)) : Type 0 where
  pub moments : List Moment
  pub last : List Bool
  pub goes_on : GoesOn c from moments last
  pub reads : inputs_of moments ≡ word
  pub wide : length last ≡ length c.latches

pub run : (c : CircuitData) → HasOneValues c → (from : List Bool) (word : List (List Bool)) →
    length from ≡ length c.latches → All (IsWide c) word → Run c from word
run c one from [] held wide = record { moments = []; last = from; goes_on = refl; reads = refl; wide = held }
run c one from (x ∷ xs) held wide =
    let s = step c one from x held (All-head (IsWide c) x xs wide) in
    let rest = run c one s.next xs s.next_wide (All-tail (IsWide c) x xs wide) in
    record {
      moments = record { latches = from; inputs = x; outputs = s.outputs } ∷ rest.moments;
      last = rest.last;
      goes_on = (s.next, refl, s.steps, rest.goes_on);
      reads = ap (λ (ls : List (List Bool)). x ∷ ls) rest.reads;
      wide = rest.wide;
    }

-- ## Latches that traces reach

pub resets_reached : (c : CircuitData) → IsReachedByTrace c (resets c)
resets_reached c = ([], refl)

pub next_reached : {c : CircuitData} {latches inputs outputs next : List Bool} → IsReachedByTrace c latches →
    Steps c latches inputs outputs next → IsReachedByTrace c next
next_reached {c} {latches} {inputs} {outputs} {next} r s =
    let last = record { latches = latches; inputs = inputs; outputs = outputs } ∷ [] in
    (r.0 ++ last, GoesOn-append c (resets c) latches next r.0 last r.1 (next, refl, s, refl))
