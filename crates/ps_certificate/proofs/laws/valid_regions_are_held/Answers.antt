use Rattle.ps_certificate.proofs.FlawsAndValidity.Holding.{BothHold-from_valid}
use Rattle.ps_certificate.proofs.laws.valid_regions_are_held.Goals as goal

pub returns : goal.returns
returns c = BothHold-from_valid
