use Rattle.ps_game.proofs.PathsAndLoops.OnPaths.{loop_priority_top}
use Rattle.ps_game.proofs.laws.loop_priority_is_top.Goals as goal

pub returns : goal.returns
returns c = loop_priority_top
