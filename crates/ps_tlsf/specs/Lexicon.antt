-- The tokens of a specification. At each offset the longest token is taken.
-- - blanks: the bytes 9 to 13 and 32; `//` and the bytes up to a newline; `/*` up to the `*/` that closes it, where
--   comments nest, and no other bytes count in them
-- - words: a letter or `_`, followed by letters, digits, `_`, `'` and `@`
-- - strings: a quote, any bytes without quotes, a quote
-- - signs: `{ } ( ) ; : , ! && || -> <->`
--
-- A byte that begins none of these is a token of the kind `Wrong`, which no specification has; so is the first byte of
-- a string or comment that is not closed.
-- - `Token`: a token: its kind, its bytes, the offset of its first byte, and the offset after its last byte
-- - `scan_step bytes`: what the bytes begin with, and its length: something to be skipped, or a token
-- - `lex at bytes`: the tokens of the bytes, whose first byte is at the offset `at`
use Rattle.std.specs.Prelude.{ℕ, zero, suc, ◌+◌, ◌-◌, ◌&&◌, false, List, [], ◌∷◌, length, take}
use Rattle.std.specs.Prelude.{drop, if◌then◌else◌, nat_eq, nat_lt, Option, None, Some}
use Rattle.std.specs.List.{prefix_len}
use Rattle.ps_text.specs.Bytes.{is_inner, is_unquoted}
use Rattle.ps_text.specs.Comments.{comment_len, head_or_zero}
use Rattle.ps_tlsf.specs.Bytes.{class_of, is_word_byte}
use Rattle.ps_tlsf.specs.Words.{word_sign}
use Rattle.ps_tlsf.specs.declared.words.Infix.{Infix}
use Rattle.ps_tlsf.specs.declared.words.Infix.TheVariants as infixes
use Rattle.ps_tlsf.specs.declared.words.Sign.{Sign}
use Rattle.ps_tlsf.specs.declared.words.Sign.TheVariants as signs
use Rattle.ps_tlsf.specs.declared.tokens.Class.{Class}
use Rattle.ps_tlsf.specs.declared.tokens.Class.TheVariants.{Blank, Letter, Digit, Quote, Slash, Ampersand, Bar, Dash}
use Rattle.ps_tlsf.specs.declared.tokens.Class.TheVariants.{Less, Sign as SignOf, Other}
use Rattle.ps_tlsf.specs.declared.tokens.Step.{Step}
use Rattle.ps_tlsf.specs.declared.tokens.Step.TheVariants.{Skip, Found}

pub record Token : Type 0 where
  pub sign : Sign
  pub text : List ℕ
  pub start : ℕ
  pub stop : ℕ

abbrev pub wrong : Step
wrong = Found signs.Wrong 1

-- the longest run of a word's bytes, after a first byte that begins a word
abbrev pub word_step : List ℕ → Step
word_step bytes = let n : ℕ = 1 + prefix_len is_word_byte (drop 1 bytes) in Found (word_sign (take n bytes)) n

-- a string, of which the bytes after its first quote are given
abbrev pub text_step : List ℕ → Step
text_step bs =
    if nat_lt (prefix_len is_unquoted bs) (length bs) then Found signs.Text (prefix_len is_unquoted bs + 2) else wrong

abbrev pub comment_by : Option ℕ → Step
comment_by None = wrong
comment_by (Some n) = Skip (2 + n)

-- a comment, of which the bytes after its first slash are given
abbrev pub slash_step : List ℕ → Step
slash_step bs =
    if nat_eq (head_or_zero bs) 47 then Skip (1 + prefix_len is_inner bs)
    else (if nat_eq (head_or_zero bs) 42 then comment_by (comment_len (drop 1 bs) false 0) else wrong)

abbrev pub pair_step : ℕ → Infix → List ℕ → Step
pair_step second operator bs = if nat_eq (head_or_zero bs) second then Found (signs.Infix operator) 2 else wrong

abbrev pub arrow_step : List ℕ → Step
arrow_step bs =
    if nat_eq (head_or_zero bs) 45 && nat_eq (head_or_zero (drop 1 bs)) 62 then Found (signs.Infix infixes.Iff) 3
    else wrong

abbrev pub class_step : Class → ℕ → List ℕ → Step
class_step Blank b bs = Skip 1
class_step Letter b bs = word_step (b ∷ bs)
class_step Digit b bs = wrong
class_step Quote b bs = text_step bs
class_step Slash b bs = slash_step bs
class_step Ampersand b bs = pair_step 38 infixes.And bs
class_step Bar b bs = pair_step 124 infixes.Or bs
class_step Dash b bs = pair_step 62 infixes.Implies bs
class_step Less b bs = arrow_step bs
class_step (SignOf sign) b bs = Found sign 1
class_step Other b bs = wrong

unfoldable pub scan_step : List ℕ → Step
scan_step [] = Skip 0
scan_step (b ∷ bs) = class_step (class_of b) b bs

-- the tokens after the first `skip` bytes; these bytes are the rest of a token, a blank or a comment that began before
-- them
unfoldable pub lex_behind : List ℕ → ℕ → ℕ → List Token
lex_behind [] skip at = []
lex_behind (b ∷ bs) (suc skip) at = lex_behind bs skip (at + 1)
lex_behind (b ∷ bs) zero at =
    elim (scan_step (b ∷ bs)) [
      | Skip n ↦ lex_behind bs (n - 1) (at + 1)
      | Found sign n ↦
          record { sign = sign; text = take n (b ∷ bs); start = at; stop = at + n } ∷ lex_behind bs (n - 1) (at + 1)
    ]

abbrev pub lex : ℕ → List ℕ → List Token
lex at bytes = lex_behind bytes 0 at
