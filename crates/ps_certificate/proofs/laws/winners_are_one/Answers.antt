use Rattle.ps_certificate.proofs.OneWinner.{one_winner}
use Rattle.ps_certificate.proofs.laws.winners_are_one.Goals as goal

pub returns : goal.returns
returns c = one_winner
