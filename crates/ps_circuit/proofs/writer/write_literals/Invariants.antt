use Rattle.std.proofs.Common.{◌≡◌, ◌++◌, drop}
use Rattle.ps_circuit.specs.Written.{literal_lines}
use Rattle.ps_circuit.proofs.writer.write_literals.Given as goal

abbrev pub invariant-loop-literal : goal.invariant-loop-literal
invariant-loop-literal l =
    l.out.items ++ literal_lines (drop l.literal-index l.literals) ≡ l.initial.out.items ++ literal_lines l.literals
