use Rattle.std.proofs.Common.{◌<◌, IfSome, length}
use Rattle.ps_improvement.proofs.plan.Plan.better.Given as goal

abbrev pub invariant-loop-number : goal.invariant-loop-number
invariant-loop-number g l = IfSome l.better (λ to. to < length l.self.rows.items)
