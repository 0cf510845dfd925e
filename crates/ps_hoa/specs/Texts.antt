-- The answer to an HOA text: its meaning, or its first error.
-- - `file`: the header and the body, as one part
-- - `IsBehindBlanks bytes blanks rest`: `rest` is what follows all blanks and comments
-- - `ReadsFile bytes answer`: the answer is the meaning of a text without an error, or the first error
-- - `IsFileAnswer view bytes result`: the parser may return `result` for the text: its meaning, its first error, or out
--   of memory
use Rattle.std.specs.Prelude.{◌≡◌, ◌≢◌, ℕ, ◌+◌, ◌<◌, ◌≤◌, ◌||◌, Bool, true, List, [], ◌++◌, length, codes, nat_eq, None}
use Rattle.std.specs.Prelude.{Some, Result, Ok, Err}
use Rattle.std.specs.Option.{unwrap_or}
use Rattle.ps_text.specs.Answers.{Piece, Found}
use Rattle.ps_text.specs.Parts.{Part, then_by, mapped, PartAnswers}
use Rattle.ps_hoa.specs.Bytes.{is_name_byte}
use Rattle.ps_hoa.specs.Tokens.{Sign, IsBlankPart, IsBlankRun, AllBytes, StopsBefore, AreTokens, in_context}
use Rattle.ps_hoa.specs.Scan.{fresh}
use Rattle.ps_hoa.specs.Causes.{hoa_causes}
use Rattle.ps_hoa.specs.Grammar.Conditions.{Condition}
use Rattle.ps_hoa.specs.Grammar.Conditions as conditions
use Rattle.ps_hoa.specs.Files.{FileData, count_of_states}
use Rattle.ps_hoa.specs.Grammar.Header.{HeaderData, names_of, header}
use Rattle.ps_hoa.specs.Grammar.Body.{BodyData, body, sets_of}
use Rattle.ps_hoa.specs.declared.fault.HoaCause.{HoaCause}
use Rattle.ps_hoa.specs.declared.fault.HoaCause.TheVariants as causes
use Rattle.ps_hoa.specs.Causes.{HoaFault}
use Rattle.ps_text.specs.declared.faults.Fault.TheVariants as faults

abbrev pub condition_of : HeaderData → Condition
condition_of h = elim h.acceptance [ None ↦ conditions.constant true | Some a ↦ a.condition ]

-- the file that a header and a body form together
abbrev pub file_of : HeaderData → BodyData → FileData
file_of h b = record {
  states = count_of_states h.states (unwrap_or h.start 0) b.rows;
  start = unwrap_or h.start 0;
  names = names_of h;
  controllable = unwrap_or h.controllable [];
  aliases = h.aliases;
  sets = sets_of h;
  condition = condition_of h;
  rows = b.rows;
}

abbrev pub file : Part Sign FileData HoaCause
file = then_by header (λ h. mapped (file_of h) (body h))

-- ## The stages

abbrev pub text_limit : ℕ
text_limit = 16777216

pub record IsBehindBlanks (bytes blanks rest : List ℕ) : Type 0 where
  pub split : bytes ≡ blanks ++ rest
  pub are_blanks : IsBlankRun blanks
  pub all : (part more : List ℕ) → rest ≡ part ++ more → IsBlankPart part → ⊥

-- a byte that a version may contain: a byte of a name, or a dot
abbrev pub is_version_byte : ℕ → Bool
is_version_byte b = is_name_byte b || nat_eq b 46

-- the version: the longest prefix of `bytes` that consists only of bytes that a version may contain. The other bytes
-- are `rest`
pub record IsVersion (bytes version rest : List ℕ) : Type 0 where
  pub split : bytes ≡ version ++ rest
  pub run : AllBytes is_version_byte version
  pub longest : StopsBefore is_version_byte rest

abbrev pub at_offset : HoaCause → ℕ → Result FileData (Found HoaCause)
at_offset cause offset = Err (record { cause = cause; offset = offset })

pub data ReadsFile (bytes : List ℕ) : Result FileData (Found HoaCause) → Type 0 where
  too_long : text_limit < length bytes → ReadsFile bytes (at_offset causes.Limit text_limit)
  not_hoa : {blanks rest : List ℕ} → length bytes ≤ text_limit → IsBehindBlanks bytes blanks rest →
      ((more : List ℕ) → rest ≡ codes "HOA:" ++ more → ⊥) → ReadsFile bytes (at_offset causes.NotHoa (length blanks))
  other_version : {blanks further rest version more tail : List ℕ} → length bytes ≤ text_limit →
      IsBehindBlanks bytes blanks (codes "HOA:" ++ more) →
      IsBehindBlanks more further rest → IsVersion rest version tail → version ≢ codes "v1" →
      ReadsFile bytes (at_offset causes.Version (length blanks + 4 + length further))
  by_tokens : {blanks further rest more tail : List ℕ} → (pieces : List (Piece Sign)) →
      {answer : Result FileData (Found HoaCause)} →
      length bytes ≤ text_limit → IsBehindBlanks bytes blanks (codes "HOA:" ++ more) →
      IsBehindBlanks more further rest → IsVersion rest (codes "v1") tail →
      AreTokens (length blanks + 4 + length further + 2) tail pieces →
      PartAnswers hoa_causes file (record { pieces = in_context fresh pieces; end = length bytes }) answer →
      ReadsFile bytes answer

-- the fault is the first error of the text
abbrev pub IsRefusedAs : List ℕ → HoaFault → Type 0
IsRefusedAs bytes (faults.Text cause offset) = ReadsFile bytes (at_offset cause offset)
IsRefusedAs bytes faults.OutOfMemory = ⊥

-- the fault is the first error of the text, or it is `OutOfMemory`
abbrev pub IsFaultOf : List ℕ → HoaFault → Type 0
IsFaultOf bytes (faults.Text cause offset) = ReadsFile bytes (at_offset cause offset)
IsFaultOf bytes faults.OutOfMemory = Unit {0}

-- the parser may return this result: the meaning or the first error of the text, or out of memory; `view` gives the
-- meaning of a stored value
abbrev pub IsFileAnswer : {X : Type 0} → (X → FileData) → List ℕ → Result X HoaFault → Type 0
IsFileAnswer view bytes (Ok x) = ReadsFile bytes (Ok (view x))
IsFileAnswer view bytes (Err fault) = IsFaultOf bytes fault
