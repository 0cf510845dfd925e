use Rattle.std.proofs.Common.{rules}
use Rattle.ps_components.proofs.Codes.{closed_code, narrow_closed, status_set}
use Rattle.ps_components.proofs.statuses.Statuses.close.Goals as goal

pub returns-then-self-clause-ok : goal.returns-then-self-clause-ok
returns-then-self-clause-ok c = search (rules, status_set, closed_code)

pub returns-then-number-lt-LAST_NARROW-clause-ok : goal.returns-then-number-lt-LAST_NARROW-clause-ok
returns-then-number-lt-LAST_NARROW-clause-ok c = search (rules, status_set, narrow_closed)

pub returns-clause-ok : goal.returns-clause-ok
returns-clause-ok c = search (rules, status_set, closed_code)
