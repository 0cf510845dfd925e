use Rattle.std.proofs.Common.{◌≡◌, map, take}
use Rattle.ps_circuit.specs.Drafts.{name_bytes}
use Rattle.ps_cone.proofs.names.input_names.Given as goal

abbrev pub invariant-loop-input : goal.invariant-loop-input
invariant-loop-input l = map name_bytes l.names.items ≡ take l.input l.circuit.input_names
