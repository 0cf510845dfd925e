use Rattle.ps_game.proofs.PathsAndLoops.Beaten.{histories_beaten}
use Rattle.ps_game.proofs.laws.no_history_wins_outside.Goals as goal

pub returns : goal.returns
returns c = histories_beaten
