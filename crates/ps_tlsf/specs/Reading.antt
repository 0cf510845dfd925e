-- The answer to a text: the specification, or the first error and its offset.
use Rattle.std.specs.Prelude.{◌≡◌, ℕ, Bool, true, false, List, length, if◌then◌else◌, Result, Ok, Err, nat_lt}
use Rattle.ps_text.specs.Answers.{Found}
use Rattle.ps_text.specs.Faults.{UnlessMemory}
use Rattle.ps_tlsf.specs.Causes.{TlsfFault}
use Rattle.ps_tlsf.specs.Lexicon.{lex}
use Rattle.ps_tlsf.specs.Specifications.{Specification, specification_of}
use Rattle.ps_tlsf.specs.Steps.{State, fresh, run}
use Rattle.ps_tlsf.specs.declared.fault.TlsfCause.{TlsfCause}
use Rattle.ps_tlsf.specs.declared.fault.TlsfCause.TheVariants as causes
use Rattle.ps_tlsf.specs.declared.phases.Phase.{Phase}
use Rattle.ps_tlsf.specs.declared.phases.Phase.TheVariants as phases

-- the maximal length of a text, in bytes
abbrev pub text_limit : ℕ
text_limit = 16777216

abbrev pub is_end : Phase → Bool
is_end phases.End = true
is_end phase = false

-- after all tokens, at the offset `end`
abbrev pub ended_at : ℕ → Result State (Found TlsfCause) → Result State (Found TlsfCause)
ended_at end (Err found) = Err found
ended_at end (Ok s) = if is_end s.phase then Ok s else Err (record { cause = causes.Syntax; offset = end })

-- what was read of a text to its end, or the first error
abbrev pub read_of : List ℕ → Result State (Found TlsfCause)
read_of text =
    if nat_lt text_limit (length text) then Err (record { cause = causes.Limit; offset = text_limit })
    else ended_at (length text) (run fresh (lex 0 text))

abbrev pub meaning : Result State (Found TlsfCause) → Result Specification (Found TlsfCause)
meaning (Ok s) = Ok (specification_of s)
meaning (Err found) = Err found

-- the answer to a text
abbrev pub answer_of : List ℕ → Result Specification (Found TlsfCause)
answer_of text = meaning (read_of text)

-- what a call of the parser returns: the answer to the text, or out of memory
abbrev pub IsAnswer : List ℕ → Result Specification TlsfFault → Type 0
IsAnswer text result = UnlessMemory (λ answer. answer ≡ answer_of text) result
