use Rattle.std.proofs.Common.{◌≡◌, map, take}
use Rattle.ps_circuit.specs.Drafts.{name_bytes}
use Rattle.ps_cone.proofs.names.output_names.Given as goal

abbrev pub invariant-loop-output : goal.invariant-loop-output
invariant-loop-output l = map name_bytes l.names.items ≡ take l.output l.circuit.output_names
