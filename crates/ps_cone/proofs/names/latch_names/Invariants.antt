use Rattle.std.proofs.Common.{◌≡◌, map, take}
use Rattle.ps_circuit.specs.Drafts.{name_bytes}
use Rattle.ps_cone.specs.Parts.{selected}
use Rattle.ps_cone.proofs.names.latch_names.Given as goal

abbrev pub invariant-loop-latch : goal.invariant-loop-latch
invariant-loop-latch l = map name_bytes l.names.items ≡ selected l.needed (take l.latch l.circuit.latch_names)
