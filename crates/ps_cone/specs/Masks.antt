-- Circuits in which some outputs are the constant false.
-- - `masked instead kept xs`: the elements of the list that the flags keep, and another in place of each of the rest
-- - `mask kept c`: the circuit c with the literal 0, which is false, in place of each output that is not kept
-- - `masked_moments kept moments`: the steps of the mask, in which the outputs that are not kept are false
use Rattle.std.specs.Prelude.{◌≡◌, ℕ, Bool, false, List, map, if◌then◌else◌}
use Rattle.std.specs.List.{zip}
use Rattle.ps_circuit.specs.Circuits.{CircuitData}
use Rattle.ps_circuit.specs.Values.{GoesOn, Moment}

-- there is a flag for each element
abbrev pub masked : {X : Type 0} → (instead : X) → (kept : List Bool) → List X → List X
masked instead kept xs = map (λ p. if p.0 then p.1 else instead) (zip kept xs)

abbrev pub with_outputs : CircuitData → List ℕ → CircuitData
with_outputs c outputs = record c { outputs = outputs }

abbrev pub mask : (kept : List Bool) → CircuitData → CircuitData
mask kept c = with_outputs c (masked 0 kept c.outputs)

abbrev pub masked_moment : (kept : List Bool) → Moment → Moment
masked_moment kept m = record m { outputs = masked false kept m.outputs }

abbrev pub masked_moments : (kept : List Bool) → List Moment → List Moment
masked_moments kept moments = map (masked_moment kept) moments

-- steps of the circuit c, from which the mask's given steps arise
pub record IsRunOfMask (c : CircuitData) (kept from : List Bool) (moments : List Moment) (to : List Bool) : Type 0 where
  pub whole : List Moment
  pub goes_on : GoesOn c from whole to
  pub moments_are : moments ≡ masked_moments kept whole
