-- The law `one_certificate` is proved by the lemma of the same name.
use Rattle.ps_referee.proofs.OneSolutionVerdict.{one_certificate}
use Rattle.ps_referee.proofs.laws.one_certificate.Goals as goal

pub returns : goal.returns
returns c = one_certificate
