-- For each token of the parser's code, the token of the grammar to which it corresponds.
use Rattle.std.specs.Prelude.{◌≡◌, ◌+◌, ◌<◌, ◌≤◌, IsTrue, ℕ, Bool, true, false, List, Option, None, Some, length}
use Rattle.std.specs.List.{AllPass}
use Rattle.ps_text.specs.Answers.{Stream, next_of, offset_of}
use Rattle.ps_text.specs.Readers.{tail}
use Rattle.ps_text.specs.Digits.{decimal_value}
use Rattle.ps_text.specs.Bytes.{is_unquoted}
use Rattle.ps_pgsolver.specs.GameTexts.{too_large}
use Rattle.ps_pgsolver.specs.Lexer.{stream_from}
use Rattle.ps_pgsolver.specs.Signs.{Sign, Number, Word, Name, Comma, Semicolon, OpenName, Wrong}
use Rattle.ps_pgsolver.specs.declared.token.Kind.{Kind}
use Rattle.ps_pgsolver.specs.declared.token.Kind.TheVariants as kinds
use Rattle.ps_pgsolver.specs.declared.token.Token.{Token}

-- the grammar's token for a token of the code; `None` for the end of the text
abbrev pub sign_of : Kind → Option Sign
sign_of (kinds.Number value) = Some (Number value)
sign_of (kinds.LargeNumber digits) = Some (Number (decimal_value digits.now))
sign_of (kinds.Word letters) = Some (Word letters.now)
sign_of (kinds.Name inner) = Some (Name inner.now)
sign_of kinds.Comma = Some Comma
sign_of kinds.Semicolon = Some Semicolon
sign_of kinds.OpenName = Some OpenName
sign_of kinds.Wrong = Some Wrong
sign_of kinds.End = None

-- the next token of the grammar corresponds to the code's token, and is at the same offset
pub record IsHead (token : Token) (stream : Stream Sign) : Type 0 where
  pub sign : sign_of token.kind ≡ next_of stream
  pub start : token.start ≡ offset_of stream.pieces stream.end

abbrev pub is_number : Option Sign → Bool
is_number (Some (Number n)) = true
is_number _ = false

abbrev pub is_comma : Option Sign → Bool
is_comma (Some Comma) = true
is_comma _ = false

abbrev pub name_of : Option Sign → Option (List ℕ)
name_of (Some (Name inner)) = Some inner
name_of _ = None

-- a number token has a value that fits in 64 bits or is marked as too large, and a name token has no quote in the name
abbrev pub IsPlain : Kind → Type 0
IsPlain (kinds.Number value) = value < too_large
IsPlain (kinds.LargeNumber digits) = too_large ≤ decimal_value digits.now
IsPlain (kinds.Name inner) = AllPass is_unquoted inner.now
IsPlain _ = Unit {0}

-- a token of the code and its length in bytes: the token corresponds to the grammar's token `sign`, and its length is
-- `size`, which is at most `most`
pub record IsLexed (lexed : Kind × ℕ) (sign : Sign) (size most : ℕ) : Type 0 where
  pub sign_is : sign_of lexed.0 ≡ Some sign
  pub size_is : lexed.1 ≡ size
  pub plain : IsPlain lexed.0
  pub within : lexed.1 ≤ most

-- the next token was a number that fits in 64 bits, and the parser moved past it
pub record IsNumberTaken (number : ℕ) (old new : Stream Sign) : Type 0 where
  pub sign : next_of old ≡ Some (Number number)
  pub small : number < too_large
  pub rest : new ≡ tail old

-- the next token is no number, or the token behind it begins 18 or more bytes later
abbrev pub HasNoShortNumber : Stream Sign → Type 0
HasNoShortNumber s = IsTrue (is_number (next_of s)) →
    offset_of s.pieces s.end + 18 ≤ offset_of (tail s).pieces (tail s).end

-- either the next token was the given one and the parser moved past it, or the parser did not move
abbrev pub TakesIfNext : Sign → Stream Sign → Bool → Stream Sign → Type 0
TakesIfNext sign old true new = (next_of old ≡ Some sign) × (new ≡ tail old)
TakesIfNext sign old false new = new ≡ old

-- the token is the first token of the text from the token's offset on, and the later tokens are the tokens of the text
-- from the offset `behind` on
pub record IsNextToken (text : List ℕ) (token : Token) (behind : ℕ) : Type 0 where
  pub head : IsHead token (stream_from text token.start)
  pub plain : IsPlain token.kind
  pub rest : stream_from text behind ≡ tail (stream_from text token.start)
  pub start : token.start ≤ length text
  pub within : behind ≤ length text
