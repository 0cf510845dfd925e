use Rattle.ps_pruning.proofs.LiftEntries.{lift_there}
use Rattle.ps_pruning.proofs.laws.lift_is_there.Goals as goal

pub returns : goal.returns
returns c = lift_there
