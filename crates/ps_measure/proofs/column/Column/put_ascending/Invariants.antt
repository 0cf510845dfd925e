use Rattle.ps_measure.specs.Inner.Columns.{value_of}
use Rattle.ps_measure.proofs.CountRows.CountsPlaced.{ArePut, IsSame}
use Rattle.ps_measure.proofs.column.Column.put_ascending.Given as goal

abbrev pub invariant-loop-vertex : goal.invariant-loop-vertex
invariant-loop-vertex l =
    ArePut IsSame (value_of l.self.components l.self.values.items) l.initial.table l.table l.fn.place l.vertex l.raised
