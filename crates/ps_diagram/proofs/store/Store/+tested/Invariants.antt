use Rattle.std.proofs.Common.{◌+◌}
use Rattle.ps_diagram.proofs.store.Store.+tested.Given as goal

abbrev pub decreases-tested : goal.decreases-tested
decreases-tested l = l.low + l.high
