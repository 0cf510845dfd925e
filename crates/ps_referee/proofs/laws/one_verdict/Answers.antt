-- Each clause of the law `one_verdict` is proved by a lemma.
use Rattle.ps_referee.proofs.Judged.{no_cycle, no_flaw, flaw_without_cycle}
use Rattle.ps_referee.proofs.OneSolutionVerdict.{same_player}
use Rattle.ps_referee.proofs.laws.one_verdict.Goals as goal

pub returns-clause-apart : goal.returns-clause-apart
returns-clause-apart c = flaw_without_cycle

pub returns-clause-player : goal.returns-clause-player
returns-clause-player c = same_player

pub returns-clause-no_flaw : goal.returns-clause-no_flaw
returns-clause-no_flaw c = no_flaw

pub returns-clause-no_cycle : goal.returns-clause-no_cycle
returns-clause-no_cycle c = no_cycle
