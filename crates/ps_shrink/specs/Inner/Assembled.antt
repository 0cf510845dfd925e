-- The parts of a circuit that has the gates of a builder and the names of another circuit.
-- - `AreCells from cells latches`: the latches' variables are numbered from `from` on, with the next values and the first
--   values of the cells
-- - `HasGatesOf named d cells outputs c`: the circuit c has the gates of d, the latches of the cells, the output literals
--   `outputs`, and as many inputs as the circuit `named`, with the same names of inputs and outputs
-- - `HasNamesOf named c`: the circuits have the same names of inputs and outputs
use Rattle.std.specs.Prelude.{◌≡◌, ℕ, ◌+◌, ◌*◌, List, length, map, slice_get, Some, None, replicate}
use Rattle.std.specs.List.{range_with_len}
use Rattle.ps_circuit.specs.declared.parts.Latch.{Latch}
use Rattle.ps_circuit.specs.Building.{Drafted, variables_of}
use Rattle.ps_circuit.specs.Circuits.{CircuitData}
use Rattle.ps_aiger.specs.Wires.{AreGates}
use Rattle.ps_shrink.specs.declared.assembling.Cell.{Cell}

pub record AreCells (from : ℕ) (cells : List Cell) (latches : List Latch) : Type 0 where
  pub many : length latches ≡ length cells
  pub each : (k : ℕ) (cell : Cell) → slice_get cells k ≡ Some cell → slice_get latches k ≡ Some
      (record { literal = 2 * (from + k); next = cell.next; reset = cell.reset })

pub record HasGatesOf (named : CircuitData) (d : Drafted) (cells : List Cell) (outputs : List ℕ) (c : CircuitData) :
    Type 0 where
  pub most : c.most ≡ variables_of d
  pub inputs : c.inputs ≡ map (λ v. 2 * v) (range_with_len 1 (length named.inputs))
  pub latches : AreCells (length named.inputs + 1) cells c.latches
  pub output_literals : c.outputs ≡ outputs
  pub gates : AreGates (d.given + 1) d.gates c.gates
  pub input_names : c.input_names ≡ named.input_names
  pub output_names : c.output_names ≡ named.output_names
  pub latch_names : c.latch_names ≡ replicate (length cells) None

pub record HasNamesOf (named c : CircuitData) : Type 0 where
  pub input_names : c.input_names ≡ named.input_names
  pub output_names : c.output_names ≡ named.output_names
