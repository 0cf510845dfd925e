use Rattle.std.proofs.Common.{rules}
use Rattle.std.proofs.lemmas.List.{take-map}
use Rattle.ps_game.proofs.numbers.Numbers.truncate.Goals as goal

pub returns : goal.returns
returns g c = search (rules, take-map)
