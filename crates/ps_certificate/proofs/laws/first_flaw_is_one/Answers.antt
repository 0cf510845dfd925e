use Rattle.ps_certificate.proofs.FlawsAndValidity.OneFlaw.{one_first_flaw}
use Rattle.ps_certificate.proofs.laws.first_flaw_is_one.Goals as goal

pub returns : goal.returns
returns c = one_first_flaw
