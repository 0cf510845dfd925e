use Rattle.std.proofs.Common.{◌≡◌, ◌++◌, drop}
use Rattle.ps_circuit.specs.Written.{fields}
use Rattle.ps_circuit.proofs.writer.write_fields.Given as goal

abbrev pub invariant-loop-number : goal.invariant-loop-number
invariant-loop-number l =
    l.out.items ++ fields (drop l.number-index l.numbers) ≡ l.initial.out.items ++ fields l.numbers
