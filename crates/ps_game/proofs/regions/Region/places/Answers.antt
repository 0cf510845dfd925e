use Rattle.std.proofs.Common.{rules}
use Rattle.ps_game.proofs.StoredGames.WordSets.{places_are}
use Rattle.ps_game.proofs.regions.Region.places.Goals as goal

pub returns : goal.returns
returns c = search (rules, places_are)
