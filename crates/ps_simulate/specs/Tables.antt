-- The invariant of a simulator's table of values.
use Rattle.std.specs.Prelude.{◌≡◌, Bool, false, List, length, slice_index_or}
use Rattle.ps_circuit.specs.Circuits.{CircuitData, IsCircuit}
use Rattle.ps_simulate.specs.declared.plan.Plan.{Plan}
use Rattle.ps_simulate.specs.Plans.{IsPlan, variables}

-- `values` has a value for each index of the plan, and the first value is the constant false; `latches` has a value for
-- each latch
pub record IsValueTable (c : CircuitData) (plan : Plan) (values latches : List Bool) : Type 0 where
  pub is_circuit : IsCircuit c
  pub is_plan : IsPlan c plan
  pub values_each : length values ≡ length (variables c)
  pub constant : slice_index_or values 0 false ≡ false
  pub latches_each : length latches ≡ length c.latches
