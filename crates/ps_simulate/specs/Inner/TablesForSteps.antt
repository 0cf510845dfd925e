-- The tables of values in which the rows (gates) of a plan can be evaluated. A step of a circuit first fills such a
-- table: it copies the inputs and the latches, and evaluates the rows.
use Rattle.std.specs.Prelude.{◌≡◌, ℕ, ◌+◌, ◌<◌, ◌≤◌, Bool, false, List, length, slice_index_or, All}
use Rattle.ps_simulate.specs.declared.lane_plan.Operands.{Operands}
use Rattle.ps_simulate.specs.declared.plan.Row.{Row}
use Rattle.ps_simulate.specs.LanePlans.{rows_from}
use Rattle.ps_simulate.specs.Lanes.{lane_of}
use Rattle.ps_simulate.specs.Plans.{IsRowInTable}

-- the table has an entry for each index that a row has, has room for the inputs and the latches, and begins with the
-- constant 0
pub record IsTableFor (rows : List Row) (inputs latches values : List Bool) : Type 0 where
  pub within : All (IsRowInTable (length values)) rows
  pub room : 1 + length inputs + length latches ≤ length values
  pub constant : slice_index_or values 0 false ≡ false

-- the conditions of `IsTableFor`, but on a table for 256 runs at once, which has the values of the gates from index
-- `front` on
pub record IsLaneTableFor (front : ℕ) (gates : List Operands) (inputs latches values : List (List ℕ)) : Type 0 where
  pub within : All (IsRowInTable (length values)) (rows_from front gates)
  pub fit : front + length gates ≤ length values
  pub room : 1 + length inputs + length latches ≤ length values
  pub constant : (lane : ℕ) → lane < 256 → slice_index_or (lane_of values lane) 0 false ≡ false
