use Rattle.std.proofs.Common.{◌-◌}
use Rattle.ps_keys.proofs.TableLemmas.{IsBehind}
use Rattle.ps_keys.proofs.table.Table.find.Given as goal

abbrev pub invariant-loop-passed : goal.invariant-loop-passed
invariant-loop-passed g l = IsBehind g.K.PartialEq.eq l.list l.key l.self.slots.items l.hash l.passed

abbrev pub decreases-loop-passed : goal.decreases-loop-passed
decreases-loop-passed g l = l.self.reach - l.passed
