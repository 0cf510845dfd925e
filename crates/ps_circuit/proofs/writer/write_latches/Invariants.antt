use Rattle.std.proofs.Common.{◌≡◌, ◌++◌, drop}
use Rattle.ps_circuit.specs.Written.{latch_lines}
use Rattle.ps_circuit.proofs.writer.write_latches.Given as goal

abbrev pub invariant-loop-latch : goal.invariant-loop-latch
invariant-loop-latch l =
    l.out.items ++ latch_lines (drop l.latch-index l.latches) ≡ l.initial.out.items ++ latch_lines l.latches
