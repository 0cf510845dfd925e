use Rattle.ps_certificate.proofs.FlawsAndValidity.Keeping.{BothKeep-from_closed}
use Rattle.ps_certificate.proofs.laws.closed_regions_are_kept.Goals as goal

pub returns : goal.returns
returns c = BothKeep-from_closed
