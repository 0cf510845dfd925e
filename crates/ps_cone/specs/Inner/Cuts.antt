-- The parts of a circuit that are left when the latches and gates that are not needed are cut off.
use Rattle.std.specs.Prelude.{◌≡◌, ℕ, ◌+◌, Bool, false, List, filter, length, map, slice_index_or}
use Rattle.ps_circuit.specs.Circuits.{CircuitData, ReadsGate}
use Rattle.ps_circuit.specs.declared.parts.Gate.{Gate}
use Rattle.ps_components.specs.Orders.{IsOrder}
use Rattle.ps_cone.specs.Parts.{selected}

abbrev pub no_gate : Gate
no_gate = record { literal = 0; first = 0; second = 0 }

abbrev pub gate_at : CircuitData → ℕ → Gate
gate_at c i = slice_index_or c.gates i no_gate

-- the flags of the gates come after those of the latches
abbrev pub keeps_gate : CircuitData → (needed : List Bool) → ℕ → Bool
keeps_gate c needed i = slice_index_or needed (length c.latches + i) false

-- the gates that are needed, in the given order
abbrev pub gates_among : CircuitData → (needed : List Bool) → (order : List ℕ) → List Gate
gates_among c needed order = map (gate_at c) (filter (keeps_gate c needed) order)

pub record AreOrderedGates (c : CircuitData) (needed : List Bool) (gates : List Gate) : Type 0 where
  pub order : List ℕ
  pub is_order : IsOrder (ReadsGate c.gates) (length c.gates) order
  pub gates_are : gates ≡ gates_among c needed order

-- the parts of c that are needed, with the given outputs
pub record HasPartsOf (c : CircuitData) (given : List ℕ) (needed : List Bool) (cut : CircuitData) : Type 0 where
  pub most : cut.most ≡ c.most
  pub inputs : cut.inputs ≡ c.inputs
  pub latches : cut.latches ≡ selected needed c.latches
  pub outputs : cut.outputs ≡ given
  pub gates : AreOrderedGates c needed cut.gates
  pub input_names : cut.input_names ≡ c.input_names
  pub latch_names : cut.latch_names ≡ selected needed c.latch_names
  pub output_names : cut.output_names ≡ c.output_names
