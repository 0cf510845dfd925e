use Rattle.ps_zielonka.proofs.DividedSubgames.Divided.{game_divided}
use Rattle.ps_zielonka.proofs.laws.each_game_is_divided.Goals as goal

pub returns : goal.returns
returns c = game_divided
