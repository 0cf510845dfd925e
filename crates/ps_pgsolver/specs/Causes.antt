-- The errors of a game text, and their numbers in psyn's list of faults.
use Rattle.std.specs.Prelude.{ℕ, ◌≤◌, List, codes}
use Rattle.ps_text.specs.declared.faults.Fault.{Fault}
use Rattle.ps_pgsolver.specs.declared.fault.PgCause.{PgCause}
use Rattle.ps_pgsolver.specs.declared.fault.PgCause.TheVariants as causes
use Rattle.ps_text.specs.declared.faults.Fault.TheVariants as faults

-- why the parser returns no game: the text has an error, which is given with its offset, or memory ran out
abbrev pub PgFault : Type 0
PgFault = Fault PgCause

abbrev pub cause_number : PgCause → ℕ
cause_number causes.Syntax = 30
cause_number causes.NoSuccessor = 31
cause_number causes.UnknownSuccessor = 32
cause_number causes.NodeTwice = 33
cause_number causes.Number = 34
cause_number causes.Limit = 35

abbrev pub cause_name : PgCause → List ℕ
cause_name causes.Syntax = codes "Syntax"
cause_name causes.NoSuccessor = codes "NoSuccessor"
cause_name causes.UnknownSuccessor = codes "UnknownSuccessor"
cause_name causes.NodeTwice = codes "NodeTwice"
cause_name causes.Number = codes "Number"
cause_name causes.Limit = codes "Limit"

-- the offset of an error is within a text of the given length, or at its end
abbrev pub StandsWithin : ℕ → PgFault → Type 0
StandsWithin length (faults.Text cause offset) = offset ≤ length
StandsWithin length faults.OutOfMemory = Unit {0}
