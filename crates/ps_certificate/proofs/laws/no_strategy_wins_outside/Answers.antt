use Rattle.ps_certificate.proofs.FlawsAndValidity.Holding.{NoneWinsOutside-from_valid}
use Rattle.ps_certificate.proofs.laws.no_strategy_wins_outside.Goals as goal

pub returns : goal.returns
returns c = NoneWinsOutside-from_valid
