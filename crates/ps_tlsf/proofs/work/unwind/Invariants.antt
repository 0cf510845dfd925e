use Rattle.std.proofs.Common.{length, ◌≡◌}
use Rattle.ps_tlsf.specs.Machines.{unwound}
use Rattle.ps_tlsf.proofs.work.unwind.Given as goal

abbrev pub invariant-frames : goal.invariant-frames
invariant-frames l = unwound l.sweep l.stack l.ops.items ≡ unwound l.sweep l.fn.stack l.fn.ops.items

abbrev pub decreases-frames : goal.decreases-frames
decreases-frames l = length l.stack
