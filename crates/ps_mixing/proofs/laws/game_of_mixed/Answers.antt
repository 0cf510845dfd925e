use Rattle.ps_mixing.proofs.MixedFileGames.{game_back, game_there}
use Rattle.ps_mixing.proofs.laws.game_of_mixed.Goals as goal

pub returns : goal.returns
returns c file mixing is order game = (game_back order file mixing is game, game_there order file mixing is game)
