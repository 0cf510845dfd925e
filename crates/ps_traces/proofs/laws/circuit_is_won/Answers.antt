use Rattle.std.proofs.Common.{rules}
use Rattle.ps_traces.proofs.Words.{all_accepted, none_accepted}
use Rattle.ps_traces.proofs.laws.circuit_is_won.Goals as goal

pub returns-clause-accepted : goal.returns-clause-accepted
returns-clause-accepted c = search (rules, all_accepted)

pub returns-clause-rejected : goal.returns-clause-rejected
returns-clause-rejected c = search (rules, none_accepted)
