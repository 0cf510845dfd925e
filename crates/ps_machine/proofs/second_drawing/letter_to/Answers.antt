use Rattle.std.proofs.Common.{arith}
use Rattle.std.proofs.lemmas.Grind.{common_steps}
use Rattle.ps_machine.proofs.second_drawing.letter_to.Goals as goal

pub returns-then-eq : goal.returns-then-eq
returns-then-eq c = grind (arith, common_steps)

pub loop-leaf-preserved : goal.loop-leaf-preserved
loop-leaf-preserved c = grind (arith, common_steps)
