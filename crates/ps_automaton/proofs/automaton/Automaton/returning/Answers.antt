use Rattle.std.proofs.Common.{arith}
use Rattle.std.proofs.lemmas.Grind.{common_steps, elements}
use Rattle.ps_automaton.proofs.automaton.Automaton.returning.Goals as goal

pub loop-laps-preserved : goal.loop-laps-preserved
loop-laps-preserved c = grind (arith, common_steps)

pub loop-laps-init : goal.loop-laps-init
loop-laps-init c = grind (arith, common_steps)

pub loop-laps-smaller : goal.loop-laps-smaller
loop-laps-smaller c = grind (arith, common_steps)

pub overflow_sub-result : goal.overflow_sub-result
overflow_sub-result c = grind (arith, elements)
