use Rattle.std.proofs.Common.{◌≡◌, take}
use Rattle.ps_cone.specs.Inner.Cuts.{gates_among}
use Rattle.ps_cone.proofs.cone.gates_among.Given as goal

abbrev pub invariant-loop-place : goal.invariant-loop-place
invariant-loop-place l = l.gates.items ≡ gates_among l.circuit l.needed (take l.place-index l.place-items)
