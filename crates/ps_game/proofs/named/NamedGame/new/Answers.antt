use Rattle.std.proofs.Common.{rules}
use Rattle.std.proofs.lemmas.List.{length-map}
use Rattle.ps_game.proofs.StoredGames.NamesKept.{with_none-all}
use Rattle.ps_game.proofs.named.NamedGame.new.Goals as goal

pub returns-clause-names : goal.returns-clause-names
returns-clause-names c = search (rules, with_none-all, length-map)
