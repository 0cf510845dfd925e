use Rattle.ps_diagram.specs.Table.{Keeps}
use Rattle.ps_brief.specs.Inner.Covering.{IsCovered}
use Rattle.ps_brief.specs.Targets.{AreTargetsOf}
use Rattle.ps_brief.proofs.bases.left_uncovered.Given as goal

abbrev pub invariant-loop-place : goal.invariant-loop-place
invariant-loop-place l = record {
  keeps : Keeps l.fn.store l.store;
  targets : AreTargetsOf l.setting l.store l.targets;
  covered : IsCovered l.setting l.store l.targets.state l.targets.list.items l.place l.letter l.covered;
}
