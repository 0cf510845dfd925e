use Rattle.std.proofs.Common.{◌-◌}
use Rattle.ps_keys.specs.Inner.Slots.{Passes}
use Rattle.ps_keys.proofs.table.Table.free_slot.Given as goal

abbrev pub invariant-loop-passed : goal.invariant-loop-passed
invariant-loop-passed l = Passes l.self.slots.items l.hash l.passed

abbrev pub decreases-loop-passed : goal.decreases-loop-passed
decreases-loop-passed l = l.size - l.passed
