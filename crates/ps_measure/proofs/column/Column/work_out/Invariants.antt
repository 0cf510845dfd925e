use Rattle.ps_components.specs.ComponentLists.{AreComponents, AreMet}
use Rattle.ps_measure.specs.Inner.Remaining.{low_graph, low_weight}
use Rattle.ps_measure.specs.Inner.Columns.{IsColumn}
use Rattle.ps_measure.proofs.RaisedCounts.PassSteps.{RaisedBelow}
use Rattle.ps_measure.proofs.column.Column.work_out.Given as goal

abbrev pub invariant-loop-root : goal.invariant-loop-root
invariant-loop-root g l = record {
  components : AreComponents (low_graph l.low) l.self.components;
  met : AreMet (low_graph l.low) l.roots l.self.components;
  column : IsColumn (low_graph l.low) (low_weight l.low) l.self.components l.self.values.items;
  raised : RaisedBelow l.self.components l.self.values.items l.roots l.root-index;
}
