use Rattle.std.proofs.Common.{arith}
use Rattle.ps_machine.proofs.AutomatonGames.GameKeys.Starting.{names_more, plain_names_more}
use Rattle.ps_machine.proofs.game.names_of.Goals as goal

pub loop-key-preserved : goal.loop-key-preserved
loop-key-preserved c = grind (arith, names_more, plain_names_more)
