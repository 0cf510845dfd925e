use Rattle.std.proofs.Common.{rules}
use Rattle.ps_game.proofs.StoredGames.DistinctByStamps.{all_dropped}
use Rattle.ps_game.proofs.builder.drop_repeats.Goals as goal

pub returns : goal.returns
returns c = search (rules, all_dropped)
