-- The run of the parser through the tokens of a text.
use Rattle.std.specs.Prelude.{◌≡◌, ℕ, List, length, Result, Ok, Err}
use Rattle.ps_text.specs.declared.faults.Fault.TheVariants.{Text, OutOfMemory}
use Rattle.ps_tlsf.specs.Causes.{TlsfFault}
use Rattle.ps_tlsf.specs.Lexicon.{lex}
use Rattle.ps_tlsf.specs.Reading.{ended_at}
use Rattle.ps_tlsf.specs.Steps.{fresh, run}
use Rattle.ps_tlsf.specs.Inner.StateViews.{state_data}
use Rattle.ps_tlsf.specs.declared.steps.State.{State}

-- the state at the end of a text that is short enough, or its first fault
abbrev pub IsRead : List ℕ → Result State TlsfFault → Type 0
IsRead text (Ok s) = ended_at (length text) (run fresh (lex 0 text)) ≡ Ok (state_data s)
IsRead text (Err (Text cause offset)) =
    ended_at (length text) (run fresh (lex 0 text)) ≡ Err (record { cause = cause; offset = offset })
IsRead text (Err OutOfMemory) = Unit {0}
