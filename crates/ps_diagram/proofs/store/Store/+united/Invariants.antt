use Rattle.std.proofs.Common.{◌+◌}
use Rattle.ps_diagram.proofs.store.Store.+united.Given as goal

abbrev pub decreases-united : goal.decreases-united
decreases-united l = l.first + l.second
