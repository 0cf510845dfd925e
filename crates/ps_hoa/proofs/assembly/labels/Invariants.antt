use Rattle.std.proofs.Common.{◌≡◌}
use Rattle.ps_hoa.proofs.assembly.labels.Given as goal

abbrev pub invariant-loop-alias : goal.invariant-loop-alias
invariant-loop-alias l = l.labels ≡ l.yielded
