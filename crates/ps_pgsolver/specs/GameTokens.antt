-- The tokens of a game text, as a relation between the text's bytes and a list of tokens with offsets.
-- - `IsByteRun p text rest`: `text` is a run of bytes that pass the test p, and `rest` does not begin with such a byte
-- - `IsToken before sign text rest`: the bytes `text`, between the bytes `before` and `rest`, are the token `sign`
-- - `AreGameTokens text stream`: the list `stream` has the tokens of the whole text, in which any number of blanks may
--   stand before, between and after the tokens
--
-- A number is a longest run of digits, a word is a longest run of letters, and a name is between quotes. Some tokens
-- are never allowed: a word directly after a number, a number directly after a word, a name without its closing quote,
-- and a byte that can begin none of the other tokens.
use Rattle.std.specs.Prelude.{◌≡◌, ◌≢◌, ℕ, ◌<◌, Bool, true, false, List, [], ◌∷◌, ◌++◌, length}
use Rattle.ps_text.specs.Answers.{Stream}
use Rattle.ps_text.specs.Digits.{decimal_value}
use Rattle.ps_text.specs.Runs.{AllOf, StopsBefore}
use Rattle.ps_text.specs.Tokens.{AreTokens}
use Rattle.ps_text.specs.Bytes.{is_blank, is_digit, is_letter, is_unquoted}
use Rattle.ps_pgsolver.specs.Ends.{ends_in}
use Rattle.ps_pgsolver.specs.Signs.{Sign, Number, Word, Name, Comma, Semicolon, OpenName, Wrong}

pub record IsByteRun (p : ℕ → Bool) (text rest : List ℕ) : Type 0 where
  pub some : 0 < length text
  pub all : AllOf p text
  pub longest : StopsBefore p rest

-- a byte that begins no token and is not a blank
pub record IsStray (b : ℕ) : Type 0 where
  pub no_digit : is_digit b ≡ false
  pub no_letter : is_letter b ≡ false
  pub no_blank : is_blank b ≡ false
  pub no_quote : b ≢ 34
  pub no_comma : b ≢ 44
  pub no_semicolon : b ≢ 59

pub data IsWrongToken (before text rest : List ℕ) : Type 0 where
  number_behind_word : IsByteRun is_digit text rest → ends_in is_letter before ≡ true → IsWrongToken before text rest
  word_behind_number : IsByteRun is_letter text rest → ends_in is_digit before ≡ true → IsWrongToken before text rest
  stray : (b : ℕ) → text ≡ b ∷ [] → IsStray b → IsWrongToken before text rest

abbrev pub IsToken : List ℕ → Sign → List ℕ → List ℕ → Type 0
IsToken before (Number n) text rest =
    IsByteRun is_digit text rest × (n ≡ decimal_value text) × (ends_in is_letter before ≡ false)
IsToken before (Word letters) text rest =
    IsByteRun is_letter text rest × (letters ≡ text) × (ends_in is_digit before ≡ false)
IsToken before (Name inner) text rest = (text ≡ 34 ∷ (inner ++ 34 ∷ [])) × AllOf is_unquoted inner
IsToken before Comma text rest = text ≡ 44 ∷ []
IsToken before Semicolon text rest = text ≡ 59 ∷ []
IsToken before OpenName text rest = (inner : List ℕ) × (text ≡ 34 ∷ inner) × AllOf is_unquoted inner × (rest ≡ [])
IsToken before Wrong text rest = IsWrongToken before text rest

abbrev pub AreGameTokens : List ℕ → Stream Sign → Type 0
AreGameTokens text stream = AreTokens (λ b. is_blank b ≡ true) IsToken text stream
