use Rattle.std.proofs.lemmas.Grind.{common_steps}
use Rattle.std.proofs.Common.{arith}
use Rattle.ps_hoa.proofs.Reading.CondRows.{condition_of-All, condition_of-Any}
use Rattle.ps_automaton.proofs.chain.+is_complemented.Goals as goal

pub loop-operand-init : goal.loop-operand-init
loop-operand-init t c = grind (arith, condition_of-All)

pub loop-operand-2-init : goal.loop-operand-2-init
loop-operand-2-init t c = grind (arith, condition_of-Any)

pub loop-operand-2-preserved : goal.loop-operand-2-preserved
loop-operand-2-preserved t c = grind (arith, common_steps)

pub returns-then-is_complemented : goal.returns-then-is_complemented
returns-then-is_complemented t c = grind (arith, common_steps)

pub loop-operand-preserved : goal.loop-operand-preserved
loop-operand-preserved t c = grind (arith, common_steps)

pub returns-after-loop-operand-2 : goal.returns-after-loop-operand-2
returns-after-loop-operand-2 t c = grind (arith, common_steps)

pub returns-after-loop-operand : goal.returns-after-loop-operand
returns-after-loop-operand t c = grind (arith, common_steps)

pub returns-then-is_complemented-2 : goal.returns-then-is_complemented-2
returns-then-is_complemented-2 t c = grind (arith, common_steps)
