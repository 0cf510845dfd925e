-- The errors of a specification, and their numbers in psyn's list of faults.
use Rattle.std.specs.Prelude.{ℕ, List, codes}
use Rattle.ps_text.specs.declared.faults.Fault.{Fault}
use Rattle.ps_tlsf.specs.declared.fault.TlsfCause.{TlsfCause}
use Rattle.ps_tlsf.specs.declared.fault.TlsfCause.TheVariants as causes

-- why the parser returns no specification: the text has an error, which is given with its offset, or memory ran out
abbrev pub TlsfFault : Type 0
TlsfFault = Fault TlsfCause

abbrev pub cause_number : TlsfCause → ℕ
cause_number causes.Syntax = 80
cause_number causes.Name = 81
cause_number causes.Twice = 82
cause_number causes.Order = 83
cause_number causes.Limit = 84

abbrev pub cause_name : TlsfCause → List ℕ
cause_name causes.Syntax = codes "Syntax"
cause_name causes.Name = codes "Name"
cause_name causes.Twice = codes "Twice"
cause_name causes.Order = codes "Order"
cause_name causes.Limit = codes "Limit"
