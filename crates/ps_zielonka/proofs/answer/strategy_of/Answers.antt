use Rattle.std.proofs.Common.{arith}
use Rattle.std.proofs.lemmas.Grind.{common_steps}
use Rattle.ps_zielonka.proofs.answer.strategy_of.Goals as goal

pub bounds-winner-vertex : goal.bounds-winner-vertex
bounds-winner-vertex c = grind (arith, common_steps)

pub loop-vertex-init : goal.loop-vertex-init
loop-vertex-init c = grind (arith, common_steps)

pub loop-vertex-preserved : goal.loop-vertex-preserved
loop-vertex-preserved c = grind (arith, common_steps)

pub set-requires : goal.set-requires
set-requires c κs = grind (arith, common_steps)

pub chosen-requires : goal.chosen-requires
chosen-requires c κs = grind (arith, common_steps)

pub owns-requires : goal.owns-requires
owns-requires c κs = grind (arith, common_steps)
