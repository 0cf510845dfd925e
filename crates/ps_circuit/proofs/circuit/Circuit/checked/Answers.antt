use Rattle.std.proofs.Common.{arith}
use Rattle.ps_circuit.proofs.circuit.Circuit.checked.Goals as goal

pub returns-in-Err-Cyclic-clause-none : goal.returns-in-Err-Cyclic-clause-none
returns-in-Err-Cyclic-clause-none c = λ good. grind (arith, good.acyclic c.in-Err-Cyclic.field-0-0)
