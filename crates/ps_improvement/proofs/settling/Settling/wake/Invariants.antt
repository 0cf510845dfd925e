use Rattle.std.proofs.Common.{◌≡◌}
use Rattle.ps_improvement.proofs.settling.Settling.wake.Given as goal

abbrev pub invariant-loop-from : goal.invariant-loop-from
invariant-loop-from g l = l.self.ground ≡ l.initial.self.ground
