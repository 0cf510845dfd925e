use Rattle.std.proofs.Common.{◌+◌, ◌*◌}
use Rattle.ps_parts.proofs.split.Split.+function.Given as goal

-- a conjunction is parted at the depth of its operands
abbrev pub decreases-conjunction : goal.decreases-conjunction
decreases-conjunction g l = 2 * l.depth + 1

abbrev pub decreases-each : goal.decreases-each
decreases-each g l = 2 * l.depth + 1

abbrev pub decreases-function_at : goal.decreases-function_at
decreases-function_at g l = 2 * l.depth

abbrev pub decreases-globally_each : goal.decreases-globally_each
decreases-globally_each g l = 2 * l.depth + 1
