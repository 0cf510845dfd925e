use Rattle.std.proofs.Common.{◌<◌, length}
use Rattle.ps_improvement.proofs.plan.Plan.least.Given as goal

abbrev pub invariant-loop-number : goal.invariant-loop-number
invariant-loop-number g l = l.least < length l.self.rows.items
