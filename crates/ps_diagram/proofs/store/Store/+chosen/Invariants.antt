use Rattle.std.proofs.Common.{◌+◌}
use Rattle.ps_diagram.proofs.store.Store.+chosen.Given as goal

abbrev pub decreases-chosen : goal.decreases-chosen
decreases-chosen l = l.truth + l.one + l.other
