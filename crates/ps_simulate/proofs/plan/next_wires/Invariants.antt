use Rattle.std.proofs.Common.{◌≡◌, map, take}
use Rattle.ps_simulate.specs.Plans.{wire_of}
use Rattle.ps_simulate.proofs.plan.next_wires.Given as goal

abbrev pub invariant-loop-latch : goal.invariant-loop-latch
invariant-loop-latch l = l.wires.items ≡ map (λ latch. wire_of l.places latch.next) (take l.latch-index l.latch-items)
