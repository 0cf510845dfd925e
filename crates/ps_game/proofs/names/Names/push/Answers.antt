use Rattle.std.proofs.Common.{rules}
use Rattle.ps_game.proofs.StoredGames.NameParts.{offsets_more, parts_of_more}
use Rattle.ps_game.proofs.names.Names.push.Goals as goal

pub invariant_of-self-2 : goal.invariant_of-self-2
invariant_of-self-2 c = search (rules, offsets_more)

pub returns-clause-ok : goal.returns-clause-ok
returns-clause-ok c = search (rules, parts_of_more)
