use Rattle.std.proofs.Common.{◌+◌}
use Rattle.ps_diagram.proofs.store.Store.+paired.Given as goal

abbrev pub decreases-paired : goal.decreases-paired
decreases-paired l = l.first + l.second
