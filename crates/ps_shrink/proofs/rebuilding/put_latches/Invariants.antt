use Rattle.std.proofs.Common.{◌≡◌}
use Rattle.ps_shrink.proofs.rebuilding.put_latches.Given as goal

abbrev pub invariant-loop-number : goal.invariant-loop-number
invariant-loop-number l = l.images ≡ l.initial.images
