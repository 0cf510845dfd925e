use Rattle.std.proofs.Common.{rules}
use Rattle.std.proofs.lemmas.List.{map-set}
use Rattle.ps_game.proofs.numbers.Numbers.set.Goals as goal

pub returns : goal.returns
returns g c = search (rules, map-set)
