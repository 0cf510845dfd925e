-- The numbers and names of the faults for which a text gets no report.
use Rattle.std.specs.Prelude.{ℕ, List, codes}
use Rattle.ps_circuit.specs.EncodeFaultNames as encode
use Rattle.ps_circuit.specs.declared.encode_fault.EncodeFault.TheVariants as encoding
use Rattle.ps_automaton.specs.FaultNames as automaton
use Rattle.ps_certificate.specs.Faults as certificate
use Rattle.ps_hoa.specs.CauseNames as hoa_names
use Rattle.ps_hoa.specs.Causes as hoa
use Rattle.ps_solver.specs.FaultNames as solver
use Rattle.ps_solver.specs.declared.fault.SolveFault.TheVariants as solving
use Rattle.ps_text.specs.Faults.{memory_number, memory_name}
use Rattle.ps_synthesis.specs.declared.fault.SynthFault.{SynthFault}
use Rattle.ps_synthesis.specs.declared.fault.SynthFault.TheVariants.{Text, Automaton, BadCycle, Certificate}
use Rattle.ps_synthesis.specs.declared.fault.SynthFault.TheVariants.{NotCertified, CircuitTooLarge, OutOfMemory}

abbrev pub fault_number : SynthFault → ℕ
fault_number (Text cause offset) = hoa.cause_number cause
fault_number (Automaton fault) = automaton.fault_number fault
fault_number (BadCycle ids) = solver.fault_number (solving.BadCycle ids)
fault_number (Certificate cause offset) = certificate.cause_number cause
fault_number NotCertified = 41
fault_number CircuitTooLarge = encode.fault_number encoding.CircuitTooLarge
fault_number OutOfMemory = memory_number

abbrev pub fault_name : SynthFault → List ℕ
fault_name (Text cause offset) = hoa_names.cause_name cause
fault_name (Automaton fault) = automaton.fault_name fault
fault_name (BadCycle ids) = solver.fault_name (solving.BadCycle ids)
fault_name (Certificate cause offset) = certificate.cause_name cause
fault_name NotCertified = codes "NotCertified"
fault_name CircuitTooLarge = encode.fault_name encoding.CircuitTooLarge
fault_name OutOfMemory = memory_name
