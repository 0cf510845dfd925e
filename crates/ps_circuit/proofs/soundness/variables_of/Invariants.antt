use Rattle.std.proofs.Common.{[], take}
use Rattle.ps_circuit.specs.Inner.Reading.{Defines}
use Rattle.ps_circuit.proofs.soundness.variables_of.Given as goal

abbrev pub invariant-loop-literal : goal.invariant-loop-literal
invariant-loop-literal l = Defines l.most [] (take l.literal-index l.literals) l.variables
