use Rattle.ps_pruning.proofs.Guiding.{guide_there}
use Rattle.ps_pruning.proofs.laws.guide_is_there.Goals as goal

pub returns : goal.returns
returns c = guide_there
