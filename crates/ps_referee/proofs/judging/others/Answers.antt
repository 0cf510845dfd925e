use Rattle.std.proofs.Common.{rules}
use Rattle.std.proofs.lemmas.List.{get_or-replicate}
use Rattle.ps_referee.proofs.judging.others.Goals as goal

pub returns-clause-others : goal.returns-clause-others
returns-clause-others c = search (rules, get_or-replicate)
