use Rattle.std.proofs.Common.{arith}
use Rattle.std.proofs.lemmas.Grind.{common_steps}
use Rattle.ps_components.proofs.search.wait.Goals as goal

pub target-requires-clause-item : goal.target-requires-clause-item
target-requires-clause-item c κs = grind (arith, common_steps)

pub target-requires-clause-place : goal.target-requires-clause-place
target-requires-clause-place c κs = grind (arith, common_steps)

pub loop-place-preserved : goal.loop-place-preserved
loop-place-preserved c = grind (arith, common_steps)
