-- A cursor over bytes as clauses see it: the symbols that are still unread.
-- - `next_byte stream, stream_offset stream`: the next unread byte; the offset of this byte or, if no byte is unread,
--   of the text's end
-- - `IsAhead stream`: each symbol of the stream has, besides its byte, the list of all bytes after it
-- - `IsOffsetIn text at`: the offset is one of the text or its end, and the text is not too long
-- - `Passes p old new run`: the cursor moved past `run`, the longest run of bytes that pass p, which may be empty
use Rattle.std.specs.Prelude.{◌≡◌, ℕ, ◌+◌, ◌<◌, ◌≤◌, ◌^◌, Bool, true, false, List, [], ◌∷◌, ◌++◌, length, Option, ◌==◌}
use Rattle.std.specs.Option.{option_map}
use Rattle.ps_text.specs.Answers.{Stream, offset_of, next_of}
use Rattle.ps_text.specs.Runs.{AllOf, StopsBefore}
use Rattle.ps_text.specs.Bytes.{Seen, pieces_at, is_digit, is_letter, is_blank, is_space, is_inner, is_unquoted}
use Rattle.ps_text.specs.declared.cursor.Class.{Class}
use Rattle.ps_text.specs.declared.cursor.Class.TheVariants.{Digit, Letter, Blank, Space, Inner, Unquoted, Quote, Comma}
use Rattle.ps_text.specs.declared.cursor.Class.TheVariants.{Semicolon}

-- the unread bytes `rest`, with a newline added at the end if the first argument says that the last line has none
abbrev pub rest_with_newline : Bool → List ℕ → List ℕ
rest_with_newline true rest = rest ++ 10 ∷ []
rest_with_newline false rest = rest

abbrev pub next_byte : Stream Seen → Option ℕ
next_byte stream = option_map (λ s. s.byte) (next_of stream)

abbrev pub stream_offset : Stream Seen → ℕ
stream_offset stream = offset_of stream.pieces stream.end

abbrev pub IsAhead : Stream Seen → Type 0
IsAhead stream = (at : ℕ) × (bytes : List ℕ) × (stream.pieces ≡ pieces_at at bytes)

abbrev pub in_class : Class → ℕ → Bool
in_class Digit = is_digit
in_class Letter = is_letter
in_class Blank = is_blank
in_class Space = is_space
in_class Inner = is_inner
in_class Unquoted = is_unquoted
in_class Quote = λ b. b == 34
in_class Comma = λ b. b == 44
in_class Semicolon = λ b. b == 59

pub record Passes (p : ℕ → Bool) (old new : Stream Seen) (run : List ℕ) : Type 0 where
  pub at : ℕ
  pub rest : List ℕ
  pub old_is : old.pieces ≡ pieces_at at (run ++ rest)
  pub new_is : new.pieces ≡ pieces_at (at + length run) rest
  pub end : new.end ≡ old.end
  pub place : at ≡ stream_offset old
  pub all : AllOf p run
  pub longest : StopsBefore p rest

-- the offset is at most the text's length, which is less than 2^63
pub record IsOffsetIn (text : List ℕ) (at : ℕ) : Type 0 where
  pub within : at ≤ length text
  pub small : length text < 2 ^ 63
