use Rattle.std.proofs.Common.{◌≡◌}
use Rattle.ps_shrink.proofs.rebuilding.begun.Given as goal

abbrev pub invariant-loop-input : goal.invariant-loop-input
invariant-loop-input l = l.images ≡ l.initial.images
