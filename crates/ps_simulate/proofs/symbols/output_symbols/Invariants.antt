use Rattle.std.proofs.Common.{◌≡◌, map, take}
use Rattle.std.specs.Option.{option_copied}
use Rattle.ps_simulate.proofs.symbols.output_symbols.Given as goal

abbrev pub invariant-loop-k : goal.invariant-loop-k
invariant-loop-k l = map option_copied l.symbols.items ≡ take l.k l.circuit.output_names
