use Rattle.std.proofs.Common.{◌≡◌, Some}
use Rattle.ps_diagram.specs.Table.{Keeps, leaf_of}
use Rattle.ps_brief.specs.Inner.Covering.{AreBelow, IsLow}
use Rattle.ps_brief.specs.Settings.{board_in}
use Rattle.ps_brief.specs.Targets.{AreTargetsOf}
use Rattle.ps_brief.proofs.bases.excluded.Given as goal

abbrev pub invariant-loop-place : goal.invariant-loop-place
invariant-loop-place l = record {
  keeps : Keeps l.fn.store l.store;
  targets : AreTargetsOf l.setting l.store l.targets;
  low : IsLow (board_in l.setting) l.store l.targets.state l.setting.second l.low;
  letter : leaf_of l.store l.low l.letter ≡ Some 1;
  below : AreBelow l.setting l.store l.targets.state l.targets.list.items l.place l.letter l.low;
}
