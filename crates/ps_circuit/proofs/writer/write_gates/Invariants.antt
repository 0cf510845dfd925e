use Rattle.std.proofs.Common.{◌≡◌, ◌++◌, drop}
use Rattle.ps_circuit.specs.Written.{gate_lines}
use Rattle.ps_circuit.proofs.writer.write_gates.Given as goal

abbrev pub invariant-loop-gate : goal.invariant-loop-gate
invariant-loop-gate l =
    l.out.items ++ gate_lines (drop l.gate-index l.gates) ≡ l.initial.out.items ++ gate_lines l.gates
