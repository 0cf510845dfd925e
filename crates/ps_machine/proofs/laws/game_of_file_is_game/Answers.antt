use Rattle.ps_machine.proofs.AutomatonGames.GameKeys.GameSound.{file_game_is_game}
use Rattle.ps_machine.proofs.laws.game_of_file_is_game.Goals as goal

pub returns : goal.returns
returns c = file_game_is_game
