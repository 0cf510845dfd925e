use Rattle.std.proofs.Common.{◌≡◌, map, take}
use Rattle.ps_hoa.specs.Memory.{bytes_of}
use Rattle.ps_automaton.proofs.automaton.copied.Given as goal

abbrev pub invariant-loop-name : goal.invariant-loop-name
invariant-loop-name l = map bytes_of l.copy.items ≡ map bytes_of (take l.name-index l.names)
