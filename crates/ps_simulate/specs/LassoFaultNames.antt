-- The numbers and the names of the faults for which a circuit has no word on a stem and a lap.
use Rattle.std.specs.Prelude.{ℕ, List, codes}
use Rattle.ps_text.specs.Faults.{memory_number, memory_name}
use Rattle.ps_simulate.specs.Faults.{cause_number, cause_name}
use Rattle.ps_simulate.specs.declared.fault.StimulusCause.TheVariants as causes
use Rattle.ps_simulate.specs.declared.lassos.LassoFault.{LassoFault}
use Rattle.ps_simulate.specs.declared.lassos.LassoFault.TheVariants.{Width, EmptyLap, Symbols, OutOfMemory}

abbrev pub fault_number : LassoFault → ℕ
fault_number Width = cause_number causes.Width
fault_number EmptyLap = 71
fault_number Symbols = 72
fault_number OutOfMemory = memory_number

abbrev pub fault_name : LassoFault → List ℕ
fault_name Width = cause_name causes.Width
fault_name EmptyLap = codes "EmptyLap"
fault_name Symbols = codes "Symbols"
fault_name OutOfMemory = memory_name
