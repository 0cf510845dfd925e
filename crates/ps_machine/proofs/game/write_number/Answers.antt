use Rattle.std.proofs.Common.{rules}
use Rattle.ps_machine.proofs.AutomatonGames.GameKeys.KeyNames.{plain_decimal}
use Rattle.ps_machine.proofs.game.write_number.Goals as goal

pub returns-clause-plain : goal.returns-clause-plain
returns-clause-plain c = search (rules, plain_decimal)
