-- The values of a circuit's variables, and the traces of a circuit.
-- - `bit_of values literal`: the value of a literal, if the list `values` has a bit for each variable
-- - `AreValues c inputs latches values`: the list `values` has a bit for each variable, and satisfies the equations of
--   circuit c
-- - `HasOneValues c`: for any inputs and latches, circuit c has a list of values, and any two such lists agree on
--   defined literals
-- - `Steps c latches inputs outputs next`: with these values of its latches and inputs, circuit c has the values
--   `outputs` of its outputs, and its latches have the values `next` after the step
-- - `IsTrace c moments`: the list has consecutive steps of circuit c; in the first step, the latches have their resets
--
-- An undefined variable may have either value, since no literal that the circuit uses has this variable.
use Rattle.std.specs.Prelude.{◌≡◌, ℕ, ◌+◌, ◌&&◌, Bool, false, not, if◌then◌else◌, List, [], ◌∷◌, map, length}
use Rattle.std.specs.Prelude.{slice_index_or, All}
use Rattle.ps_circuit.specs.declared.parts.Gate.{Gate}
use Rattle.ps_circuit.specs.Circuits.{CircuitData, definitions, IsKnown}
use Rattle.ps_circuit.specs.Literals.{is_negated, variable}

abbrev pub value_of : List Bool → ℕ → Bool
value_of values v = slice_index_or values v false

abbrev pub bit_of : List Bool → ℕ → Bool
bit_of values literal =
    if is_negated literal then not (value_of values (variable literal)) else value_of values (variable literal)

-- the value of the gate's own literal is the conjunction of the values of the two literals that the gate reads
abbrev pub MeetsGate : List Bool → Gate → Type 0
MeetsGate values g = bit_of values g.literal ≡ (bit_of values g.first && bit_of values g.second)

pub record AreValues (c : CircuitData) (inputs latches values : List Bool) : Type 0 where
  pub each : length values ≡ c.most + 1
  pub constant : value_of values 0 ≡ false
  pub inputs_are : map (bit_of values) c.inputs ≡ inputs
  pub latches_are : map (λ l. bit_of values l.literal) c.latches ≡ latches
  pub gates_are : All (MeetsGate values) c.gates

pub record HasOneValues (c : CircuitData) : Type 0 where
  pub some : (inputs latches : List Bool) → length inputs ≡ length c.inputs → length latches ≡ length c.latches →
      (values : List Bool) × AreValues c inputs latches values
  pub one : (inputs latches values others : List Bool) → AreValues c inputs latches values →
      AreValues c inputs latches others →
      (literal : ℕ) → IsKnown (definitions c) literal → bit_of values literal ≡ bit_of others literal

pub record Steps (c : CircuitData) (latches inputs outputs next : List Bool) : Type 0 where
  pub values : List Bool
  pub are_values : AreValues c inputs latches values
  pub outputs_are : outputs ≡ map (bit_of values) c.outputs
  pub next_are : next ≡ map (λ l. bit_of values l.next) c.latches

-- the values of the latches in the first step
abbrev pub resets : CircuitData → List Bool
resets c = map (λ l. l.reset) c.latches

-- the values of one step: of the latches before the step, of the inputs and of the outputs
pub record Moment : Type 0 where
  pub latches : List Bool
  pub inputs : List Bool
  pub outputs : List Bool

-- a list of consecutive steps leads from the latch values `latches` to the latch values `last`
abbrev pub GoesOn : CircuitData → List Bool → List Moment → List Bool → Type 0
GoesOn c latches [] last = latches ≡ last
GoesOn c latches (m ∷ ms) last =
    (next : List Bool) × (m.latches ≡ latches) × Steps c latches m.inputs m.outputs next × GoesOn c next ms last

abbrev pub IsTrace : CircuitData → List Moment → Type 0
IsTrace c moments = (last : List Bool) × GoesOn c (resets c) moments last
