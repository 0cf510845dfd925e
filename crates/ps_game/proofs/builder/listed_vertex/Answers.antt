use Rattle.std.proofs.Common.{arith}
use Rattle.std.proofs.lemmas.Grind.{common_steps}
use Rattle.ps_game.proofs.builder.listed_vertex.Goals as goal

pub returns : goal.returns
returns c = grind (arith, common_steps)

pub loop-successor-preserved : goal.loop-successor-preserved
loop-successor-preserved c = grind (arith, common_steps)
