-- The errors for which an AIGER text is rejected, with their numbers.
use Rattle.std.specs.Prelude.{ℕ}
use Rattle.ps_text.specs.declared.faults.Fault.{Fault}
use Rattle.ps_circuit.specs.declared.fault.AigCause.{AigCause}
use Rattle.ps_circuit.specs.declared.fault.AigCause.TheVariants.{Syntax, Literal, DefinedTwice, Undefined, Cyclic}
use Rattle.ps_circuit.specs.declared.fault.AigCause.TheVariants.{UnsetLatch, Sections}

-- why the parser returns no circuit: an error of the text with its offset, or out of memory
abbrev pub AigFault : Type 0
AigFault = Fault AigCause

abbrev pub cause_number : AigCause → ℕ
cause_number Syntax = 61
cause_number Literal = 62
cause_number DefinedTwice = 63
cause_number Undefined = 64
cause_number Cyclic = 65
cause_number UnsetLatch = 66
cause_number Sections = 67
