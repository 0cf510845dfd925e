use Rattle.std.proofs.Common.{rules}
use Rattle.ps_game.proofs.StoredGames.MoveLists.{length-moves_of, one_moved}
use Rattle.ps_game.proofs.strategy.Strategy.set.Goals as goal

pub insert-requires : goal.insert-requires
insert-requires c = search (rules, length-moves_of)

pub index_mut-requires : goal.index_mut-requires
index_mut-requires c = search (rules, length-moves_of)

pub returns : goal.returns
returns c = search (rules, length-moves_of, one_moved)
