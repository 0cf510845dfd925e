use Rattle.std.proofs.Common.{◌≡◌, map, take}
use Rattle.ps_simulate.specs.Plans.{read}
use Rattle.ps_simulate.proofs.simulator.read_all.Given as goal

abbrev pub invariant-loop-place : goal.invariant-loop-place
invariant-loop-place l = take l.place l.bits ≡ map (read l.values) (take l.place l.wires)
