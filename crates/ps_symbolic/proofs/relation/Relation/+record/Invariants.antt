use Rattle.std.proofs.Common.{◌+◌, ◌*◌}
use Rattle.ps_symbolic.proofs.relation.Relation.+record.Given as goal

abbrev pub decreases-record : goal.decreases-record
decreases-record l = 2 * l.depth

abbrev pub decreases-record_each : goal.decreases-record_each
decreases-record_each l = 2 * l.depth + 1

abbrev pub decreases-record_one : goal.decreases-record_one
decreases-record_one l = 2 * l.depth + 1
