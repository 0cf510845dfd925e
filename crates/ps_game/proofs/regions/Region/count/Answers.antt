use Rattle.std.proofs.Common.{rules}
use Rattle.ps_game.proofs.StoredGames.WordSets.{count_is, count_fits}
use Rattle.ps_game.proofs.regions.Region.count.Goals as goal

pub count_set-requires : goal.count_set-requires
count_set-requires c = search (rules, count_fits)

pub returns : goal.returns
returns c = search (rules, count_is)
