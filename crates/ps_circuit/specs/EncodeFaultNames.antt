-- The numbers and the names of the faults that are reported if no circuit was made for a machine.
use Rattle.std.specs.Prelude.{ℕ, List, codes}
use Rattle.ps_text.specs.Faults.{memory_number, memory_name}
use Rattle.ps_circuit.specs.declared.encode_fault.EncodeFault.{EncodeFault}
use Rattle.ps_circuit.specs.declared.encode_fault.EncodeFault.TheVariants.{CircuitTooLarge, OutOfMemory}

abbrev pub fault_number : EncodeFault → ℕ
fault_number CircuitTooLarge = 60
fault_number OutOfMemory = memory_number

abbrev pub fault_name : EncodeFault → List ℕ
fault_name CircuitTooLarge = codes "CircuitTooLarge"
fault_name OutOfMemory = memory_name
