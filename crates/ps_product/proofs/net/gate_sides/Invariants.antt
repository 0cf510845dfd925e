use Rattle.std.proofs.Common.{◌≡◌, map, take}
use Rattle.ps_product.specs.Inner.Nets.{sides_of}
use Rattle.ps_product.proofs.net.gate_sides.Given as goal

abbrev pub invariant-loop-gate : goal.invariant-loop-gate
invariant-loop-gate l = l.sides.items ≡ map (sides_of l.places) (take l.gate-index l.gate-items)
