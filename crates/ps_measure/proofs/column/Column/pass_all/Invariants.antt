use Rattle.std.proofs.Common.{◌<◌, ℕ}
use Rattle.ps_components.specs.Graphs.{Link}
use Rattle.ps_measure.specs.Inner.Remaining.{low_graph, low_weight}
use Rattle.ps_measure.specs.Inner.Columns.{IsRaised, IsPassed}
use Rattle.ps_measure.proofs.column.Column.pass_all.Given as goal

abbrev pub invariant-loop-place : goal.invariant-loop-place
invariant-loop-place g l = record {
  raised : IsRaised (low_graph l.low) (low_weight l.low) l.initial.self.components l.self.components
      l.initial.self.values.items l.self.values.items l.number;
  passed : (to : ℕ) (link : Link (low_graph l.low) l.from to) → link.place < l.place →
      IsPassed (low_weight l.low) l.self.components l.self.values.items l.from to;
}
