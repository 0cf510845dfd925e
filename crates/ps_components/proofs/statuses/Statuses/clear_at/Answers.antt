use Rattle.std.proofs.Common.{rules}
use Rattle.ps_components.proofs.Codes.{status_set}
use Rattle.ps_components.proofs.statuses.Statuses.clear_at.Goals as goal

pub returns-then-self : goal.returns-then-self
returns-then-self c = search (rules, status_set)

pub returns-else-self : goal.returns-else-self
returns-else-self c = search (rules, status_set)
