use Rattle.std.proofs.Common.{rules}
use Rattle.ps_game.proofs.StoredGames.WordSets.{empty_is}
use Rattle.ps_game.proofs.regions.Region.empty.Goals as goal

pub returns : goal.returns
returns c = search (rules, empty_is)
