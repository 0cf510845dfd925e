use Rattle.std.proofs.Common.{◌≤◌}
use Rattle.ps_models.proofs.grouping.groups_of.Given as goal

abbrev pub invariant-loop-last : goal.invariant-loop-last
invariant-loop-last l = l.start ≤ l.last
