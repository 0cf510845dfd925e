use Rattle.std.proofs.Common.{rules}
use Rattle.ps_machine.proofs.AutomatonGames.GameKeys.KeyNames.{range_more}
use Rattle.ps_machine.proofs.game.ids_of.Goals as goal

pub loop-id-preserved : goal.loop-id-preserved
loop-id-preserved c = search (rules, range_more)
