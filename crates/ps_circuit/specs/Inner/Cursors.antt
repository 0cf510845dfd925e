-- The contracts of the AIGER parser's private functions, in terms of the bytes that these functions move past. `old` is
-- what is unread before the call of a function, and `new` is what is unread after it.
-- - `Tells view part old result new`: the function parsed the grammar's part `part`, and `view` maps its result to the
--   value of this part; or its result is the part's first error, or out of memory
-- - `TellsNumber old result new`: the function moved past a number, which is its result; or `old` does not begin with a
--   digit, and the result is an error
use Rattle.std.specs.Prelude.{◌≡◌, ℕ, ◌-◌, ◌^◌, ◌<◌, List, [], length, Result, Ok, Err, min}
use Rattle.ps_text.specs.Answers.{Stream}
use Rattle.ps_text.specs.Readers.{Meets}
use Rattle.ps_text.specs.Faults.{found_of}
use Rattle.ps_text.specs.Bytes.{Seen, is_digit}
use Rattle.ps_text.specs.Cursors.{stream_offset, Passes}
use Rattle.ps_text.specs.Digits.{decimal_value}
use Rattle.ps_circuit.specs.Signs.{Field, aig_causes}
use Rattle.ps_circuit.specs.declared.number.Number.{Number}
use Rattle.ps_circuit.specs.declared.fault.AigCause.TheVariants.{Syntax}
use Rattle.ps_circuit.specs.Causes.{AigFault}
use Rattle.ps_text.specs.declared.faults.Fault.TheVariants.{Text}

-- either the function parsed a part of the grammar, starting at `old` and ending at `new`, or its result is the first
-- error of this part or out of memory
abbrev pub Tells : {V X : Type 0} → (X → V) → Field V → Stream Seen → Result X AigFault → Stream Seen → Type 0
Tells view part old result new = Meets found_of aig_causes view part old result new

-- a number as the parser stores it: as the greatest number of 64 bits if it does not fit
abbrev pub saturated : ℕ → ℕ
saturated n = min n (2 ^ 64 - 1)

pub record NumberIs (old new : Stream Seen) (n : Number) : Type 0 where
  pub run : List ℕ
  pub passes : Passes is_digit old new run
  pub some : 0 < length run
  pub value : n.value ≡ saturated (decimal_value run)
  pub offset : n.offset ≡ stream_offset old

abbrev pub TellsNumber : Stream Seen → Result Number AigFault → Stream Seen → Type 0
TellsNumber old (Ok n) new = NumberIs old new n
TellsNumber old (Err e) new = Passes is_digit old new [] × (e ≡ Text Syntax (stream_offset old))
