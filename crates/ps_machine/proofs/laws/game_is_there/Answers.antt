use Rattle.ps_machine.proofs.AutomatonGames.GameKeys.GameThere.{game_there}
use Rattle.ps_machine.proofs.laws.game_is_there.Goals as goal

pub returns : goal.returns
returns c = game_there
