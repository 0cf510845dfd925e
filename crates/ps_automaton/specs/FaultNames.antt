-- The numbers and the names of the faults for which an HOA file has no automaton.
use Rattle.std.specs.Prelude.{ℕ, List, codes}
use Rattle.ps_text.specs.Faults.{memory_number, memory_name}
use Rattle.ps_automaton.specs.declared.fault.AutomatonFault.{AutomatonFault}
use Rattle.ps_automaton.specs.declared.fault.AutomatonFault.TheVariants.{ComplementedSet, NonParity, Nondeterministic}
use Rattle.ps_automaton.specs.declared.fault.AutomatonFault.TheVariants.{OutOfMemory}

abbrev pub fault_number : AutomatonFault → ℕ
fault_number ComplementedSet = 18
fault_number NonParity = 17
fault_number (Nondeterministic q first second) = 21
fault_number OutOfMemory = memory_number

abbrev pub fault_name : AutomatonFault → List ℕ
fault_name ComplementedSet = codes "ComplementedSet"
fault_name NonParity = codes "NonParity"
fault_name (Nondeterministic q first second) = codes "Nondeterministic"
fault_name OutOfMemory = memory_name
