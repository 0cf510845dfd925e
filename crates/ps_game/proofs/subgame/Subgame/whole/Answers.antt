use Rattle.std.proofs.Common.{rules}
use Rattle.ps_game.proofs.PathsAndLoops.SubgameFacts.{whole_game}
use Rattle.ps_game.proofs.subgame.Subgame.whole.Goals as goal

pub returns-clause-subgame : goal.returns-clause-subgame
returns-clause-subgame g c = search (rules, whole_game)
