use Rattle.ps_certificate.proofs.FlawsAndValidity.SomeFlaw.{closed_or_flawed, valid_or_flawed}
use Rattle.ps_certificate.proofs.laws.first_flaw_is_there.Goals as goal

pub returns : goal.returns
returns c = record { closed = closed_or_flawed; valid = valid_or_flawed }
