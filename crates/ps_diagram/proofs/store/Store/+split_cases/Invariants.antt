use Rattle.std.proofs.Common.{◌-◌}
use Rattle.ps_diagram.proofs.store.Store.+split_cases.Given as goal

abbrev pub decreases-split_cases : goal.decreases-split_cases
decreases-split_cases l = l.self.now.propositions - l.level
