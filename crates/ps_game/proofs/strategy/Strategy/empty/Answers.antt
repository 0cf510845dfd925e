use Rattle.std.proofs.Common.{rules}
use Rattle.ps_game.proofs.StoredGames.MoveLists.{no_moves}
use Rattle.ps_game.proofs.strategy.Strategy.empty.Goals as goal

pub returns : goal.returns
returns c = search (rules, no_moves)
