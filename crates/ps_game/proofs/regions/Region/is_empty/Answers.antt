use Rattle.std.proofs.Common.{rules}
use Rattle.ps_game.proofs.StoredGames.WordSets.{clear_has_none, none_is_clear}
use Rattle.ps_game.proofs.regions.Region.is_empty.Goals as goal

pub returns : goal.returns
returns c = search (rules, clear_has_none, none_is_clear)
