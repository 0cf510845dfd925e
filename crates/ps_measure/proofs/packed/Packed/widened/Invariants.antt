use Rattle.std.proofs.Common.{◌≡◌, take}
use Rattle.ps_measure.proofs.packed.Packed.widened.Given as goal

abbrev pub invariant-loop-place : goal.invariant-loop-place
invariant-loop-place g l = l.wide.items ≡ take l.place l.self
