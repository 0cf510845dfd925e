use Rattle.std.proofs.Common.{◌≡◌, ◌++◌, drop, map}
use Rattle.ps_circuit.specs.Drafts.{name_bytes}
use Rattle.ps_circuit.specs.Written.{symbol_lines}
use Rattle.ps_circuit.proofs.writer.write_symbols.Given as goal

abbrev pub invariant-loop-number : goal.invariant-loop-number
invariant-loop-number l = l.out.items ++ symbol_lines l.letter l.number (map name_bytes (drop l.number l.names)) ≡
    l.initial.out.items ++ symbol_lines l.letter 0 (map name_bytes l.names)
