-- The table of gates that a simulator evaluates. Indices refer to a list of variables: 0, and then the variables of the
-- inputs, the latches and the gates.
use Rattle.std.specs.Prelude.{◌≡◌, ℕ, ◌+◌, ◌<◌, ◌==◌, ◌&&◌, Bool, false, not, if◌then◌else◌, List, [], ◌∷◌, map, length}
use Rattle.std.specs.Prelude.{slice_index_or, slice_set}
use Rattle.std.specs.List.{position_or_len}
use Rattle.ps_circuit.specs.declared.parts.Gate.{Gate}
use Rattle.ps_circuit.specs.Circuits.{CircuitData, IsCircuit, ReadsGate, definitions}
use Rattle.ps_circuit.specs.Literals.{is_negated, variable}
use Rattle.ps_components.specs.Orders.{IsOrder}
use Rattle.ps_simulate.specs.declared.plan.Wire.{Wire}
use Rattle.ps_simulate.specs.declared.plan.Row.{Row}
use Rattle.ps_simulate.specs.declared.plan.Plan.{Plan}

-- the variables in the order of their indices
abbrev pub variables : CircuitData → List ℕ
variables c = 0 ∷ map variable (definitions c)

abbrev pub place_of_variable : CircuitData → ℕ → ℕ
place_of_variable c v = position_or_len (λ w. w == v) (variables c)

abbrev pub wire_of : CircuitData → ℕ → Wire
wire_of c literal = record { place = place_of_variable c (variable literal); is_negated = is_negated literal }

abbrev pub gate_row : CircuitData → Gate → Row
gate_row c g =
    record { target = place_of_variable c (variable g.literal); first = wire_of c g.first; second = wire_of c g.second }

abbrev pub no_gate : Gate
no_gate = record { literal = 0; first = 0; second = 0 }

-- the plan's row for the circuit's gate with the index i
abbrev pub row_at : CircuitData → ℕ → Row
row_at c i = gate_row c (slice_index_or c.gates i no_gate)

-- the rows are in an order in which each gate comes after the gates that it reads
pub record AreGateRows (c : CircuitData) (rows : List Row) : Type 0 where
  pub is_circuit : IsCircuit c
  pub order : List ℕ
  pub is_order : IsOrder (ReadsGate c.gates) (length c.gates) order
  pub each : rows ≡ map (row_at c) order

pub record IsPlan (c : CircuitData) (p : Plan) : Type 0 where
  pub size_is : p.size ≡ length (variables c)
  pub rows_are : AreGateRows c p.rows.items
  pub outputs_are : p.outputs.items ≡ map (wire_of c) c.outputs
  pub nexts_are : p.nexts.items ≡ map (λ l. wire_of c l.next) c.latches

-- ---- evaluation

abbrev pub read : List Bool → Wire → Bool
read values w = if w.is_negated then not (slice_index_or values w.place false) else slice_index_or values w.place false

abbrev pub work_row : List Bool → Row → List Bool
work_row values row = slice_set values row.target (read values row.first && read values row.second)

-- the table of values after the rows are evaluated in order
abbrev pub work_out : List Row → List Bool → List Bool
work_out [] values = values
work_out (row ∷ rows) values = work_out rows (work_row values row)

-- the three indices that a row of the evaluation plan has are less than `size`, the length of the table of values
pub record IsRowInTable (size : ℕ) (row : Row) : Type 0 where
  pub target : row.target < size
  pub first : row.first.place < size
  pub second : row.second.place < size

-- the table of values begins with the constant, the inputs and the latches
pub record HasSources (inputs latches values : List Bool) : Type 0 where
  pub constant : slice_index_or values 0 false ≡ false
  pub inputs_there : (k : ℕ) → k < length inputs → slice_index_or values (1 + k) false ≡ slice_index_or inputs k false
  pub latches_there : (k : ℕ) → k < length latches → slice_index_or values (1 + length inputs + k) false ≡
      slice_index_or latches k false

-- a table of values of the given size with the given inputs and latches, after the rows were evaluated
pub record IsWorkedOut (rows : List Row) (inputs latches : List Bool) (size : ℕ) (values : List Bool) : Type 0 where
  pub table : List Bool
  pub each : length table ≡ size
  pub holds : HasSources inputs latches table
  pub done : values ≡ work_out rows table
