use Rattle.ps_game.proofs.PathsAndLoops.OnPaths.{Holds-HoldsWithin}
use Rattle.ps_game.proofs.laws.holds_on_paths.Goals as goal

pub returns : goal.returns
returns c = Holds-HoldsWithin
