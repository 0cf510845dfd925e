use Rattle.ps_machine.proofs.Uniqueness.OneFileGame.{one_game_of_file}
use Rattle.ps_machine.proofs.laws.one_game_of_file.Goals as goal

pub returns : goal.returns
returns c = one_game_of_file
