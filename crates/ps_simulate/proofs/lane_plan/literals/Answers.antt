use Rattle.std.proofs.Common.{arith}
use Rattle.std.proofs.lemmas.Grind.{common_steps}
use Rattle.ps_simulate.proofs.lane_plan.literals.Goals as goal

pub returns : goal.returns
returns c = grind (arith, common_steps)

pub loop-wire-preserved : goal.loop-wire-preserved
loop-wire-preserved c = grind (arith, common_steps)
