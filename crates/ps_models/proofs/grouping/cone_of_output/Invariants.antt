use Rattle.std.proofs.Common.{◌≡◌, length}
use Rattle.ps_models.proofs.grouping.cone_of_output.Given as goal

abbrev pub invariant-loop-output : goal.invariant-loop-output
invariant-loop-output l = length l.kept.items ≡ l.output
