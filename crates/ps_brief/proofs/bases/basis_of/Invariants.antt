use Rattle.ps_diagram.specs.Table.{Keeps}
use Rattle.ps_brief.specs.Inner.Covering.{HasFound, IsCovering}
use Rattle.ps_brief.specs.Settings.{Fits, board_in}
use Rattle.ps_brief.specs.Targets.{AreTargetsOf}
use Rattle.ps_brief.proofs.bases.basis_of.Given as goal

abbrev pub invariant-loop-round : goal.invariant-loop-round
invariant-loop-round l = record {
  keeps : Keeps l.fn.store l.store;
  fits : Fits l.setting l.store;
  targets : AreTargetsOf l.setting l.store l.targets;
  covering : IsCovering (board_in l.setting) l.store l.targets.state l.cover.uncovered l.cover.basis;
  found : HasFound l.setting l.store l.targets.state l.cover.uncovered l._round;
}
