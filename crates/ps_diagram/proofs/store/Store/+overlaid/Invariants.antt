use Rattle.std.proofs.Common.{◌+◌}
use Rattle.ps_diagram.proofs.store.Store.+overlaid.Given as goal

abbrev pub decreases-overlaid : goal.decreases-overlaid
decreases-overlaid l = l.first + l.second
