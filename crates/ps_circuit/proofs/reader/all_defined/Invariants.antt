use Rattle.std.proofs.Common.{take, All}
use Rattle.ps_circuit.specs.Texts.{IsDefined}
use Rattle.ps_circuit.proofs.reader.all_defined.Given as goal

abbrev pub invariant-loop-number : goal.invariant-loop-number
invariant-loop-number l = All (IsDefined l.noted.variables) (take l.number-index l.noted.readings.items)
