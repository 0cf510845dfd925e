use Rattle.std.proofs.Common.{◌≡◌, take}
use Rattle.ps_cone.specs.Parts.{selected}
use Rattle.ps_cone.proofs.cone.latches_among.Given as goal

abbrev pub invariant-loop-number : goal.invariant-loop-number
invariant-loop-number l = l.latches.items ≡ selected l.needed (take l.number l.circuit.latches)
