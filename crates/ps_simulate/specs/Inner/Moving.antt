-- What the code needs in order to replace the table indices of wires (literals) and of rows (gates) by new indices.
use Rattle.std.specs.Prelude.{ℕ, ◌^◌, ◌<◌, List, length}
use Rattle.ps_simulate.specs.declared.plan.Row.{Row}
use Rattle.ps_simulate.specs.declared.plan.Wire.{Wire}
use Rattle.ps_simulate.specs.LanePlans.{moved}

-- the index of the wire has a new index, which can be the variable of a literal
pub record CanMove (places : List ℕ) (w : Wire) : Type 0 where
  pub within : w.place < length places
  pub small : moved places w.place < 2 ^ 31

-- the indices of both wires that the row reads have new indices, which can be the variables of literals
pub record CanMoveRow (places : List ℕ) (r : Row) : Type 0 where
  pub first : CanMove places r.first
  pub second : CanMove places r.second
