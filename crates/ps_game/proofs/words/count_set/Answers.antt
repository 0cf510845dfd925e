use Rattle.std.proofs.Common.{rules}
use Rattle.ps_game.proofs.StoredGames.Groups.{group_summed, group_fits}
use Rattle.ps_game.proofs.words.count_set.Goals as goal

pub loop-group-preserved : goal.loop-group-preserved
loop-group-preserved c = search (rules, group_summed)

pub overflow_add-count-in-loop-group : goal.overflow_add-count-in-loop-group
overflow_add-count-in-loop-group c = search (rules, group_fits)
