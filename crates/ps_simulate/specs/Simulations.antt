-- The abstract value of a simulator.
use Rattle.std.specs.Prelude.{Bool, List}
use Rattle.ps_circuit.specs.Circuits.{CircuitData}

-- a circuit, and the current values of its latches
pub record Simulation : Type 0 where
  pub circuit : CircuitData
  pub latches : List Bool
