-- Texts whose symbols are single bytes: their symbols, and the grammars of bytes and of runs of bytes.
-- - `stream_at at bytes`: a symbol for each byte, as a stream whose first symbol is at the offset `at`
-- - `stream_of text`: the symbols of a text, with a newline added to the last line if this line has none
-- - `byte_causes number syntax`: the record `Causes` for a format in which no byte is an error wherever it occurs
-- - `byte b, word bytes`: the grammars of the single byte b, and of the given bytes in order
-- - `run p see Bad`: the grammar of the longest run of bytes that pass p, with at least one byte
use Rattle.std.specs.Prelude.{◌≡◌, ℕ, ◌+◌, ◌<◌, Bool, false, List, [], ◌∷◌, ◌++◌, length, map, Option, None, Some, ◌==◌}
use Rattle.std.specs.Prelude.{◌&&◌, ◌||◌, nat_le, not, if◌then◌else◌}
use Rattle.ps_text.specs.Answers.{Piece, Stream}
use Rattle.ps_text.specs.Parts.{Part, Causes, NoBad, give, one, then_by}
use Rattle.ps_text.specs.Runs.{AllOf, StopsBefore}

-- a symbol of the text: a byte, its offset, and the bytes after it, which a parser can see
pub record Seen : Type 0 where
  pub byte : ℕ
  pub at : ℕ
  pub behind : List ℕ

abbrev pub pieces_at : ℕ → List ℕ → List (Piece Seen)
pieces_at at [] = []
pieces_at at (b ∷ bytes) =
    record { sign = record { byte = b; at = at; behind = bytes }; start = at } ∷ pieces_at (at + 1) bytes

abbrev pub stream_at : ℕ → List ℕ → Stream Seen
stream_at at bytes = record { pieces = pieces_at at bytes; end = at + length bytes }

-- whether the last byte is a newline
abbrev pub ends_line : List ℕ → Bool
ends_line [] = false
ends_line (b ∷ []) = b == 10
ends_line (b ∷ c ∷ bytes) = ends_line (c ∷ bytes)

-- the text, with a newline added if its last line has none
abbrev pub with_newline : List ℕ → List ℕ
with_newline text = if ends_line text then text else text ++ 10 ∷ []

abbrev pub stream_of : List ℕ → Stream Seen
stream_of text = record { pieces = pieces_at 0 (with_newline text); end = length text }

abbrev pub bytes_of : List Seen → List ℕ
bytes_of signs = map (λ s. s.byte) signs

abbrev pub first_at : List Seen → ℕ
first_at [] = 0
first_at (s ∷ signs) = s.at

abbrev pub byte_causes : {C : Type 0} → (C → ℕ) → C → Causes Seen C
byte_causes number syntax = record { number = number; own = λ _. None; syntax = syntax }

-- ## Bytes

abbrev pub take_byte : ℕ → Seen → Option (Unit {0})
take_byte b s = if s.byte == b then Some tt else None

unfoldable pub byte : {C : Type 0} → ℕ → Part Seen (Unit {0}) C
byte b = one (take_byte b) NoBad

abbrev pub word : {C : Type 0} → List ℕ → Part Seen (Unit {0}) C
word [] = give tt
word (b ∷ bytes) = then_by (byte b) (λ _. word bytes)

-- ## Runs

-- `bytes` begin with the nonempty `run`, whose bytes pass the test p, and the byte after the run does not pass
pub record BeginsRun (p : ℕ → Bool) (run bytes : List ℕ) : Type 0 where
  pub rest : List ℕ
  pub split : bytes ≡ run ++ rest
  pub some : 0 < length run
  pub all : AllOf p run
  pub longest : StopsBefore p rest

-- the longest run that begins at the symbol s has the error f
pub record IsBadRun {C : Type 0} (p : ℕ → Bool) (Bad : List ℕ → C → Type 0) (s : Seen) (f : C) : Type 0 where
  pub run : List ℕ
  pub begins : BeginsRun p run (s.byte ∷ s.behind)
  pub bad : Bad run f

pub record IsByteRun {V : Type 0} (p : ℕ → Bool) (see : ℕ → List ℕ → V) (text : List Seen) (v : V) : Type 0 where
  pub some : 0 < length text
  pub all : AllOf p (bytes_of text)
  pub value : v ≡ see (first_at text) (bytes_of text)

-- A run consists of at least one byte; all its bytes pass the test p, and the byte after it, if there is one, does not.
-- `see` computes the value of a run from the run's offset and its bytes. Bad states which errors a run can have. An
-- error of a run is reported at the run's first byte, whatever follows the run.
abbrev pub run : {V C : Type 0} → (ℕ → Bool) → (ℕ → List ℕ → V) → (List ℕ → C → Type 0) → Part Seen V C
run p see Bad = record { IsText = IsByteRun p see; IsCause = λ front s f. (front ≡ []) × IsBadRun p Bad s f }

abbrev pub NoBadRun : {C : Type 0} → List ℕ → C → Type 0
NoBadRun run f = ⊥

-- ## Classes of bytes

abbrev pub is_between : ℕ → ℕ → ℕ → Bool
is_between low high b = nat_le low b && nat_le b high

abbrev pub is_digit : ℕ → Bool
is_digit b = is_between 48 57 b

abbrev pub is_letter : ℕ → Bool
is_letter b = is_between 65 90 b || is_between 97 122 b

-- a tab, a line break, another byte from 9 to 13, or a space
abbrev pub is_blank : ℕ → Bool
is_blank b = is_between 9 13 b || (b == 32)

-- a space or a tab
abbrev pub is_space : ℕ → Bool
is_space b = (b == 32) || (b == 9)

-- every byte except the newline
abbrev pub is_inner : ℕ → Bool
is_inner b = not (b == 10)

-- every byte except the quote
abbrev pub is_unquoted : ℕ → Bool
is_unquoted b = not (b == 34)
