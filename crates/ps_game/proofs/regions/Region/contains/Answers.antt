use Rattle.std.proofs.Common.{rules}
use Rattle.ps_game.proofs.StoredGames.WordSets.{places_are, bit_read}
use Rattle.ps_game.proofs.regions.Region.contains.Goals as goal

pub index-requires : goal.index-requires
index-requires c = search (rules, places_are)

pub returns : goal.returns
returns c = search (rules, bit_read)
