-- The variables of a circuit are numbered anew, in the order constant, inputs, latches, gates; a variable's new number
-- is its place.
use Rattle.std.specs.Prelude.{◌≡◌, ℕ, ◌+◌, ◌-◌, ◌<◌, ◌≤◌, ◌⊎◌, ◌&&◌, Bool, if◌then◌else◌, List, length, map, nat_le}
use Rattle.std.specs.Prelude.{slice_index_or}
use Rattle.ps_circuit.specs.declared.parts.Gate.{Gate}
use Rattle.ps_circuit.specs.Circuits.{CircuitData, IsCircuit, ReadsGate}
use Rattle.ps_circuit.specs.Values.{AreValues, value_of}
use Rattle.ps_product.specs.declared.net.Sides.{Sides}
use Rattle.ps_product.specs.Truths.{bit_by_wire}
use Rattle.ps_simulate.specs.declared.plan.Wire.{Wire}
use Rattle.ps_simulate.specs.Plans.{variables, wire_of}

-- the place (index) of the first gate, which is the number of variables that are not gates
abbrev pub front_of : CircuitData → ℕ
front_of c = 1 + length c.inputs + length c.latches

-- two literals, in the order of their variables' places
abbrev pub in_order : Wire → Wire → Sides
in_order one other =
    if nat_le one.place other.place then record { first = one; second = other }
    else record { first = other; second = one }

abbrev pub sides_of : CircuitData → Gate → Sides
sides_of c g = in_order (wire_of c g.first) (wire_of c g.second)

pub record IsNet (c : CircuitData) (front : ℕ) (gates : List Sides) (outputs nexts : List Wire) : Type 0 where
  pub is_circuit : IsCircuit c
  pub front_is : front ≡ front_of c
  pub gates_are : gates ≡ map (sides_of c) c.gates
  pub outputs_are : outputs ≡ map (wire_of c) c.outputs
  pub nexts_are : nexts ≡ map (λ l. wire_of c l.next) c.latches

-- the value of the variable with a given index; and the bit of a literal, given by the index of its variable and
-- whether it is negated
abbrev pub value_at : CircuitData → List Bool → ℕ → Bool
value_at c values place = value_of values (slice_index_or (variables c) place 0)

abbrev pub read_at : CircuitData → List Bool → Wire → Bool
read_at c values w = bit_by_wire w (value_at c values w.place)

-- the variable at `place` is a gate; the variable at `lower` is not a gate, or is a gate that the gate at `place` reads
pub record IsBelow (c : CircuitData) (place lower : ℕ) : Type 0 where
  pub behind : front_of c ≤ place
  pub within : lower < length (variables c)
  pub below : (lower < front_of c) ⊎ ((front_of c ≤ lower) × ReadsGate c.gates (place - front_of c)
      (lower - front_of c))

-- the variable with the index `place` is a gate that reads the two given literals
pub record IsGateAt (c : CircuitData) (place : ℕ) (s : Sides) : Type 0 where
  pub first_below : IsBelow c place s.first.place
  pub second_below : IsBelow c place s.second.place
  pub meets : (inputs latches values : List Bool) → AreValues c inputs latches values → value_at c values place ≡
      (read_at c values s.first && read_at c values s.second)
