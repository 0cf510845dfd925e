use Rattle.std.proofs.Common.{◌≡◌, take}
use Rattle.ps_circuit.specs.Drafts.{links_by, place_in}
use Rattle.ps_circuit.proofs.links.links_to.Given as goal

abbrev pub invariant-loop-gate : goal.invariant-loop-gate
invariant-loop-gate l = l.links.items ≡ links_by (place_in l.variables) (take l.gate-index l.gates)
