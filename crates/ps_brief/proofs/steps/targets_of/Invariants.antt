use Rattle.std.proofs.Common.{◌≡◌, ℕ, map, take}
use Rattle.std.specs.List.{All}
use Rattle.ps_diagram.specs.Table.{Keeps}
use Rattle.ps_brief.specs.Inner.Placing.{IsPlaced}
use Rattle.ps_brief.specs.Settings.{board_in}
use Rattle.ps_brief.specs.Targets.{IsTarget}
use Rattle.ps_brief.specs.declared.steps.Target.{Target}
use Rattle.ps_brief.proofs.steps.targets_of.Given as goal

-- the list has the targets of the leaves that were visited so far
abbrev pub invariant-loop-leaf : goal.invariant-loop-leaf
invariant-loop-leaf l = record {
  keeps : Keeps l.fn.store l.store;
  each : All (IsTarget l.setting l.store l.state) l.list.items;
  placed : All (IsPlaced (board_in l.setting) l.state) l.list.items;
  leaves : map (λ (one : Target). one.leaf) l.list.items ≡
      map (λ (p : ℕ × ℕ). p.0) (take l.leaf-index l.leaf-items);
}
