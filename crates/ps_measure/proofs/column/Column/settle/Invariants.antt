use Rattle.std.proofs.Common.{◌≤◌, length}
use Rattle.ps_measure.specs.Inner.Remaining.{low_graph, low_weight}
use Rattle.ps_measure.specs.Inner.Columns.{IsRaised, ArePassedFrom}
use Rattle.ps_measure.proofs.column.Column.settle.Given as goal

abbrev pub invariant-loop-place : goal.invariant-loop-place
invariant-loop-place g l = record {
  raised : IsRaised (low_graph l.low) (low_weight l.low) l.initial.self.components l.self.components
      l.initial.self.values.items l.self.values.items (length l.initial.self.components.order);
  within : l.place ≤ length l.self.components.order;
  passed : ArePassedFrom (low_graph l.low) (low_weight l.low) l.self.components l.self.values.items l.place;
}

abbrev pub decreases-loop-place : goal.decreases-loop-place
decreases-loop-place g l = l.place
