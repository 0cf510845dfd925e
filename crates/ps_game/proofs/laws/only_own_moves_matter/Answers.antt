use Rattle.ps_game.proofs.PathsAndLoops.OnPaths.{HoldsWithin-same_moves}
use Rattle.ps_game.proofs.laws.only_own_moves_matter.Goals as goal

pub returns : goal.returns
returns c = HoldsWithin-same_moves
