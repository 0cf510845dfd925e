use Rattle.std.proofs.Common.{rules}
use Rattle.ps_components.proofs.Codes.{active_code, narrow_active, status_set}
use Rattle.ps_components.proofs.statuses.Statuses.put.Goals as goal

pub returns-then-self-clause-ok : goal.returns-then-self-clause-ok
returns-then-self-clause-ok c = search (rules, status_set, active_code)

pub returns-then-place-clause-ok : goal.returns-then-place-clause-ok
returns-then-place-clause-ok c = search (rules, status_set, narrow_active)

pub returns-clause-ok : goal.returns-clause-ok
returns-clause-ok c = search (rules, status_set, active_code)
