-- The names of the errors for which an AIGER text is rejected.
use Rattle.std.specs.Prelude.{ℕ, List, codes}
use Rattle.ps_circuit.specs.declared.fault.AigCause.{AigCause}
use Rattle.ps_circuit.specs.declared.fault.AigCause.TheVariants.{Syntax, Literal, DefinedTwice, Undefined, Cyclic}
use Rattle.ps_circuit.specs.declared.fault.AigCause.TheVariants.{UnsetLatch, Sections}

abbrev pub cause_name : AigCause → List ℕ
cause_name Syntax = codes "Syntax"
cause_name Literal = codes "Literal"
cause_name DefinedTwice = codes "DefinedTwice"
cause_name Undefined = codes "Undefined"
cause_name Cyclic = codes "Cyclic"
cause_name UnsetLatch = codes "UnsetLatch"
cause_name Sections = codes "Sections"
