use Rattle.std.proofs.Common.{◌≡◌, map, take}
use Rattle.ps_simulate.specs.Plans.{wire_of}
use Rattle.ps_simulate.proofs.plan.output_wires.Given as goal

abbrev pub invariant-loop-output : goal.invariant-loop-output
invariant-loop-output l = l.wires.items ≡ map (wire_of l.places) (take l.output-index l.output-items)
