use Rattle.std.proofs.Common.{ℕ, IsSome}
use Rattle.ps_diagram.specs.Reached.{LeadsToLeaf}
use Rattle.ps_diagram.specs.Table.{Keeps, leaf_of}
use Rattle.ps_brief.specs.Inner.Covering.{AreAlike, IsLow}
use Rattle.ps_brief.specs.Settings.{board_in}
use Rattle.ps_brief.specs.Targets.{AreTargetsOf}
use Rattle.ps_brief.proofs.bases.least_low.Given as goal

abbrev pub invariant-loop-place : goal.invariant-loop-place
invariant-loop-place l = record {
  keeps : Keeps l.fn.store l.store;
  targets : AreTargetsOf l.setting l.store l.targets;
  low : IsLow (board_in l.setting) l.store l.targets.state l.setting.second l.low;
  some : (x : ℕ) × LeadsToLeaf l.store l.low 1 x;
  within : (x : ℕ) → IsSome (leaf_of l.store l.low x) → IsSome (leaf_of l.fn.store l.fn.low x);
  alike : AreAlike l.setting l.store l.targets.state l.targets.list.items l.place l.low;
}
