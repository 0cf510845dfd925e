-- Parts of a circuit: circuits with the same inputs and outputs that lack some of its latches and gates.
-- - `selected kept xs`: the elements of the list that the flags keep, in their order
-- - `IsPartOf c kept part`: `part` has the latches of c that the flags keep, and some of its gates
-- - `moments_of kept moments`: the steps of the part, in which only the kept latches have values
use Rattle.std.specs.Prelude.{◌≡◌, ◌≤◌, Bool, true, false, Contains, List, [], ◌∷◌, length, map}
use Rattle.ps_circuit.specs.Circuits.{CircuitData, IsCircuit}
use Rattle.ps_circuit.specs.Values.{GoesOn, Moment}
use Rattle.ps_circuit.specs.declared.parts.Gate.{Gate}

-- the elements of a list that are kept; there is a flag for each element
abbrev pub selected : {X : Type 0} → (kept : List Bool) → List X → List X
selected [] xs = []
selected (b ∷ bs) [] = []
selected (true ∷ bs) (x ∷ xs) = x ∷ selected bs xs
selected (false ∷ bs) (x ∷ xs) = selected bs xs

-- a circuit with the inputs, the outputs, the names and the greatest variable of c. It has the latches that are kept,
-- and no gate that c lacks.
pub record IsPartOf (c : CircuitData) (kept : List Bool) (part : CircuitData) : Type 0 where
  pub is_circuit : IsCircuit part
  pub one_each : length kept ≡ length c.latches
  pub most : part.most ≡ c.most
  pub inputs : part.inputs ≡ c.inputs
  pub latches : part.latches ≡ selected kept c.latches
  pub outputs : part.outputs ≡ c.outputs
  pub gates : (g : Gate) → Contains part.gates g → Contains c.gates g
  pub few_gates : length part.gates ≤ length c.gates
  pub input_names : part.input_names ≡ c.input_names
  pub latch_names : part.latch_names ≡ selected kept c.latch_names
  pub output_names : part.output_names ≡ c.output_names

-- the same inputs and outputs, and the values of the latches that are kept
abbrev pub moment_of : (kept : List Bool) → Moment → Moment
moment_of kept m = record { latches = selected kept m.latches; inputs = m.inputs; outputs = m.outputs }

abbrev pub moments_of : (kept : List Bool) → List Moment → List Moment
moments_of kept moments = map (moment_of kept) moments

-- steps of the circuit c that lead from the given latches, and of which a part makes the given steps
pub record IsRunOfPart (c : CircuitData) (kept from : List Bool) (moments : List Moment) (to : List Bool) : Type 0 where
  pub whole : List Moment
  pub last : List Bool
  pub goes_on : GoesOn c from whole last
  pub moments_are : moments ≡ moments_of kept whole
  pub last_is : to ≡ selected kept last
