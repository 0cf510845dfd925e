use Rattle.std.proofs.Common.{◌≡◌}
use Rattle.ps_improvement.proofs.settling.Settling.forget_all.Given as goal

abbrev pub invariant-loop-vertex : goal.invariant-loop-vertex
invariant-loop-vertex g l = l.self.ground ≡ l.initial.self.ground
