-- What the private functions of the certificate parser establish: a part of the grammar was parsed, or its first error
-- was located.
-- - `Tells view part old result new`: the function parsed the grammar's part `part`, or located its first error
-- - `numeral bytes`: the longest number without leading zeros with which the bytes begin
-- - `TellsNumber old result new`: the function moved past a number, or no number of 64 bits begins at the cursor
-- - `TellsPriority`, `TellsHead`, `TellsEntries`: the function that parses a count's priority, the first lines or the
--   whole text has parsed this part of the text, or has located its first error
use Rattle.std.specs.Prelude.{◌≡◌, ℕ, ◌+◌, ◌^◌, ◌<◌, ◌≤◌, ◌⊎◌, List, [], ◌∷◌, ◌++◌, length, Option, Some, None, Result}
use Rattle.std.specs.Prelude.{Ok, Err, Bool, true, false, ◌||◌, nat_lt, ◌==◌, if◌then◌else◌, take_while, slice_index}
use Rattle.std.specs.Char.{is_ascii_digit}
use Rattle.ps_text.specs.Answers.{Stream}
use Rattle.ps_text.specs.Parts.{PartAnswers, mapped}
use Rattle.ps_text.specs.Readers.{Reads as ReadsPart, Stops, Meets, Carries}
use Rattle.ps_text.specs.Faults.{found_of}
use Rattle.ps_text.specs.Digits.{decimal_value}
use Rattle.ps_text.specs.declared.faults.Fault.TheVariants.{Text, OutOfMemory}
use Rattle.ps_certificate.specs.declared.fault.CertCause.TheVariants.{Syntax}
use Rattle.ps_certificate.specs.Faults.{CertFault}
use Rattle.ps_certificate.specs.Certificates.{EntryData, CertificateData}
use Rattle.ps_certificate.specs.Pairs.{Pairs}
use Rattle.ps_text.specs.Bytes.{Seen, pieces_at, stream_at, byte}
use Rattle.ps_text.specs.Cursors.{stream_offset}
use Rattle.ps_certificate.specs.Texts.{Field, causes, judged, WrongPriority, entries, certificate}

abbrev pub Tells : {V X : Type 0} → (X → V) → Field V → Stream Seen → Result X CertFault → Stream Seen → Type 0
Tells view part old result new = Meets found_of causes view part old result new

-- ## Bytes

-- the next byte is a space, a newline or a colon
abbrev pub is_end : Option ℕ → Bool
is_end None = false
is_end (Some b) = (b == 32) || (b == 10) || (b == 58)

-- ## Numbers

-- the bytes begin with a given byte
abbrev pub comes : ℕ → List ℕ → Bool
comes byte [] = false
comes byte (b ∷ bytes) = b == byte

abbrev pub numeral : List ℕ → List ℕ
numeral bytes = if comes 48 bytes then 48 ∷ [] else take_while is_ascii_digit bytes

-- the parsing function moved past the longest number without leading zeros that comes next, which is `n`
pub record IsNumberRead (old new : Stream Seen) (n : ℕ) : Type 0 where
  pub at : ℕ
  pub digits : List ℕ
  pub rest : List ℕ
  pub old_is : old.pieces ≡ pieces_at at (digits ++ rest)
  pub new_is : new.pieces ≡ pieces_at (at + length digits) rest
  pub end : new.end ≡ old.end
  pub place : at ≡ stream_offset old
  pub whole : numeral (digits ++ rest) ≡ digits
  pub some : 0 < length digits
  pub value : n ≡ decimal_value digits
  pub small : n < 2 ^ 64

-- the bytes don't begin with a number, or begin with a number that is too large
pub record HasNoNumber (old : Stream Seen) : Type 0 where
  pub at : ℕ
  pub bytes : List ℕ
  pub old_is : old.pieces ≡ pieces_at at bytes
  pub none : (numeral bytes ≡ []) ⊎ ((0 < length (numeral bytes)) × (2 ^ 64 ≤ decimal_value (numeral bytes)))

abbrev pub TellsNumber : Stream Seen → Result ℕ CertFault → Stream Seen → Type 0
TellsNumber old (Ok n) new = IsNumberRead old new n
TellsNumber old (Err e) new = (e ≡ Text Syntax (stream_offset old)) × HasNoNumber old

-- the number is greater than the last priority that was read, or no priority was read before
abbrev pub rises : Option ℕ → ℕ → Bool
rises None n = true
rises (Some last) n = nat_lt last n

-- the function read a count's priority, and returned its index in the list of priorities; or it located the first
-- error, which is in the priority or is a missing colon
abbrev pub TellsPriority : List ℕ → Pairs → Stream Seen → Result ℕ CertFault → Stream Seen → Type 0
TellsPriority ps pairs old (Ok place) new = ReadsPart (judged (WrongPriority ps pairs)) old
    (slice_index ps place) new
TellsPriority ps pairs old (Err e) new =
    Stops causes (judged (WrongPriority ps pairs)) old (found_of e)
    ⊎ ((p : ℕ) × (mid : Stream Seen) × ReadsPart (judged (WrongPriority ps pairs)) old p
    mid × Stops causes (byte 58) mid (found_of e))

-- ## The text

-- the grammar of the lines of all vertices, with which the text of a certificate ends
abbrev pub all_entries : Bool → List ℕ → List ℕ → List ℕ → Field CertificateData
all_entries compact odd even ids = mapped (λ es. record { odd = odd; even = even; entries = es })
    (entries compact odd even ids ids)

-- if the lines before the vertices' lines were parsed, each result of parsing the vertices' lines is a result of
-- parsing the whole text; otherwise the fault is the whole text's first error, or out of memory
abbrev pub TellsHead : List ℕ → List ℕ → List ℕ → Stream Seen → Result Bool CertFault → Stream Seen → Type 0
TellsHead odd even ids old (Ok compact) new = Carries causes (certificate odd even ids) old
    (all_entries compact odd even ids) new
TellsHead odd even ids old (Err e) new = Stops causes (certificate odd even ids) old (found_of e)

abbrev pub TellsEntries : List ℕ → List ℕ → List ℕ → List ℕ → Result (List EntryData) CertFault → Type 0
TellsEntries odd even ids text (Ok es) = PartAnswers causes (certificate odd even ids) (stream_at 0 text)
    (Ok (record { odd = odd; even = even; entries = es }))
TellsEntries odd even ids text (Err (Text cause offset)) = PartAnswers causes (certificate odd even ids)
    (stream_at 0 text) (Err (record { cause = cause; offset = offset }))
TellsEntries odd even ids text (Err OutOfMemory) = Unit {0}
