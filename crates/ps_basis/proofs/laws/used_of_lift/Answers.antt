use Rattle.ps_basis.proofs.ArenaRounds.{first_used, second_used}
use Rattle.ps_basis.proofs.laws.used_of_lift.Goals as goal

pub returns : goal.returns
returns c = record { first = first_used; second = second_used }
