use Rattle.ps_circuit.specs.Building.{Extends}
use Rattle.ps_shrink.proofs.sweeping.build.Given as goal

abbrev pub invariant-loop-gate : goal.invariant-loop-gate
invariant-loop-gate l = Extends l.initial.images l.images
