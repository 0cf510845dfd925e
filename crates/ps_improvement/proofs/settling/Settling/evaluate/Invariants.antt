use Rattle.std.proofs.Common.{◌≡◌}
use Rattle.ps_improvement.proofs.settling.Settling.evaluate.Given as goal

abbrev pub invariant-loop : goal.invariant-loop
invariant-loop g l = l.self.ground ≡ l.initial.self.ground
