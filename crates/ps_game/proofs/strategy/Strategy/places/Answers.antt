use Rattle.std.proofs.Common.{rules}
use Rattle.ps_game.proofs.StoredGames.MoveLists.{length-moves_of}
use Rattle.ps_game.proofs.strategy.Strategy.places.Goals as goal

pub returns : goal.returns
returns c = search (rules, length-moves_of)
