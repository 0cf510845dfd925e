use Rattle.std.proofs.Common.{◌-◌}
use Rattle.ps_diagram.proofs.store.Store.+spread.Given as goal

abbrev pub decreases-spread : goal.decreases-spread
decreases-spread l = l.self.now.propositions - l.level
