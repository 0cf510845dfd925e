use Rattle.std.proofs.Common.{◌≡◌, map, take}
use Rattle.ps_simulate.specs.LanePlans.{move_wire, wire_in}
use Rattle.ps_simulate.proofs.lane_plan.literals.Given as goal

abbrev pub invariant-loop-wire : goal.invariant-loop-wire
invariant-loop-wire l = map wire_in l.literals.items ≡ map (move_wire l.places) (take l.wire-index l.wires)
