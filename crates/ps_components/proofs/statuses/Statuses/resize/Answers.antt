use Rattle.std.proofs.Common.{rules}
use Rattle.ps_components.proofs.Codes.{resized}
use Rattle.ps_components.proofs.statuses.Statuses.resize.Goals as goal

pub returns-then-self : goal.returns-then-self
returns-then-self c = search (rules, resized)

pub returns-else-self : goal.returns-else-self
returns-else-self c = search (rules, resized)
