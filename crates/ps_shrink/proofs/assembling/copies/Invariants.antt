use Rattle.std.proofs.Common.{◌≡◌, map, take}
use Rattle.std.specs.Option.{option_copied}
use Rattle.ps_circuit.specs.Drafts.{name_bytes}
use Rattle.ps_shrink.proofs.assembling.copies.Given as goal

abbrev pub invariant-loop-name : goal.invariant-loop-name
invariant-loop-name l = map name_bytes l.copies.items ≡ map option_copied (take l.name-index l.names)
