use Rattle.std.proofs.Common.{rules}
use Rattle.ps_game.proofs.StoredGames.Groups.{group_clear, clear_group}
use Rattle.ps_game.proofs.words.is_clear.Goals as goal

pub loop-group-preserved : goal.loop-group-preserved
loop-group-preserved c = search (rules, group_clear)

pub returns-then-words-group-ne0 : goal.returns-then-words-group-ne0
returns-then-words-group-ne0 c = search (rules, clear_group)
