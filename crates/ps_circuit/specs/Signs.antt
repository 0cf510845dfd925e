-- The smallest parts of the AIGER grammar, which are single bytes and runs of bytes.
-- - `number Wrong`: the longest run of digits, including leading zeros; `Wrong` states which numbers are errors
-- - `gap`, `newline`, `line_end`, `more`: what separates the fields of a line, and what ends the line
use Rattle.std.specs.Prelude.{ℕ, Bool, true, false, List}
use Rattle.ps_text.specs.Parts.{Part, Causes, give, then_by, either, mapped}
use Rattle.ps_text.specs.Bytes.{Seen, byte_causes, byte, run, NoBadRun, is_digit, is_space, is_inner}
use Rattle.ps_text.specs.Digits.{decimal_value}
use Rattle.ps_circuit.specs.Causes.{cause_number}
use Rattle.ps_circuit.specs.declared.number.Number.{Number}
use Rattle.ps_circuit.specs.declared.fault.AigCause.{AigCause}
use Rattle.ps_circuit.specs.declared.fault.AigCause.TheVariants.{Syntax}

abbrev pub aig_causes : Causes Seen AigCause
aig_causes = byte_causes cause_number Syntax

abbrev pub Field : Type 0 → Type 1
Field V = Part Seen V AigCause

-- ## Runs

abbrev pub number_at : ℕ → List ℕ → Number
number_at at digits = record { value = decimal_value digits; offset = at }

-- the grammar of a number of any size, which gives the number and the offset of its first digit
unfoldable pub number : (ℕ → AigCause → Type 0) → Field Number
number Wrong = run is_digit number_at (λ digits f. Wrong (decimal_value digits) f)

-- a gap between two fields: one or more spaces or tabs
unfoldable pub gap : Field (Unit {0})
gap = run is_space (λ at bytes. tt) NoBadRun

-- at least one byte, up to the end of the line
unfoldable pub rest_of_line : Field (List ℕ)
rest_of_line = run is_inner (λ at bytes. bytes) NoBadRun

-- ## Lines

unfoldable pub newline : Field (Unit {0})
newline = byte 10

-- the end of a line, with any spaces or tabs before it
unfoldable pub line_end : Field (Unit {0})
line_end = then_by (either gap (give tt)) (λ _. newline)

-- the end of a line, or a gap before a further field; the value is true if a field follows
unfoldable pub more : Field Bool
more = either (mapped (λ _. false) newline) (then_by gap (λ _. either (mapped (λ _. false) newline) (give true)))

-- the grammar P if a further field follows in the line, and otherwise the grammar Q
abbrev pub by_more : {V : Type 0} → Field V → Field V → Bool → Field V
by_more P Q true = P
by_more P Q false = Q
