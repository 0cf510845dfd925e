use Rattle.ps_game.proofs.PathsAndLoops.Repeats.{HasLoop-IsPath}
use Rattle.ps_game.proofs.laws.long_path_has_loop.Goals as goal

pub returns : goal.returns
returns c = HasLoop-IsPath
