use Rattle.ps_machine.proofs.Uniqueness.OneGame.{one_game_of}
use Rattle.ps_machine.proofs.laws.one_game.Goals as goal

pub returns : goal.returns
returns c = one_game_of
