-- The tokens that a single pass over the bytes finds.
use Rattle.std.specs.Prelude.{◌≡◌, ℕ, zero, suc, ◌+◌, ◌-◌, ◌<◌, ◌≤◌, ◌&&◌, Bool, true, false, List, [], ◌∷◌, length}
use Rattle.std.specs.Prelude.{take}
use Rattle.std.specs.Prelude.{drop, codes, if◌then◌else◌, nat_eq, nat_lt, Option, None, Some}
use Rattle.std.specs.List.{prefix_len}
use Rattle.std.specs.Str.{bytes_eq}
use Rattle.ps_text.specs.Answers.{Piece, Stream}
use Rattle.ps_text.specs.Comments.{comment_len, head_or_zero, one_more}
use Rattle.ps_hoa.specs.Bytes.{class_of, is_digit, is_name_byte}
use Rattle.ps_hoa.specs.Grammar.ItemNames.{none_occurred}
use Rattle.ps_hoa.specs.Tokens.{Sign, in_context}
use Rattle.ps_hoa.specs.declared.tokens.Class.{Class}
use Rattle.ps_hoa.specs.declared.tokens.Class.TheVariants.{Blank, Digit, Letter, At, Quote, Dash, Slash, Sign as SignOf}
use Rattle.ps_hoa.specs.declared.tokens.Class.TheVariants.{Other}
use Rattle.ps_hoa.specs.declared.tokens.Kind.{Kind}
use Rattle.ps_hoa.specs.declared.tokens.Kind.TheVariants.{Header, Word, AliasName, Int, ZeroRun, Text, Body, End, Abort}
use Rattle.ps_hoa.specs.declared.tokens.Kind.TheVariants.{OpenComment, Odd, Finish}
use Rattle.ps_hoa.specs.declared.tokens.Step.{Step}
use Rattle.ps_hoa.specs.declared.tokens.Step.TheVariants.{Skip, Found}
use Rattle.ps_hoa.specs.declared.tokens.Lexeme.{Lexeme}
use Rattle.ps_hoa.specs.declared.tokens.History.{History}

-- the number of bytes up to the end of the string that the given bytes continue, including the closing quote
unfoldable pub quoted_len : List ℕ → Bool → Option ℕ
quoted_len [] skip = None
quoted_len (b ∷ bs) true = one_more (quoted_len bs false)
quoted_len (b ∷ bs) false = if nat_eq b 34 then Some 1 else one_more (quoted_len bs (nat_eq b 92))

abbrev pub begins_with : List ℕ → List ℕ → Bool
begins_with bytes word = bytes_eq (take (length word) bytes) word

-- The definitions up to `scan_step` give the blank, comment or token that begins with the first byte, and its length.
-- The class of the first byte and the bytes after it determine the kind of a token.
abbrev pub number_step : ℕ → List ℕ → Step
number_step b bs =
    if nat_eq b 48 && nat_lt 0 (prefix_len is_digit bs) then Found ZeroRun (1 + prefix_len is_digit bs)
    else Found Int (1 + prefix_len is_digit bs)

abbrev pub name_step : List ℕ → Step
name_step bs =
    if nat_eq (head_or_zero (drop (prefix_len is_name_byte bs) bs)) 58 then Found Header
    (2 + prefix_len is_name_byte bs)
    else Found Word (1 + prefix_len is_name_byte bs)

abbrev pub alias_step : List ℕ → Step
alias_step bs =
    if nat_eq (prefix_len is_name_byte bs) 0 then Found Odd 1 else Found AliasName (1 + prefix_len is_name_byte bs)

abbrev pub text_by : Option ℕ → Step
text_by None = Found Odd 1
text_by (Some n) = Found Text (1 + n)

abbrev pub text_step : List ℕ → Step
text_step bs = text_by (quoted_len bs false)

abbrev pub dash_step : List ℕ → Step
dash_step bs =
    if begins_with bs (codes "-BODY--") then Found Body 8
    else (if begins_with bs (codes "-END--") then Found End 7
    else (if begins_with bs (codes "-ABORT--") then Found Abort 9
    else Found Odd 1))

abbrev pub comment_by : Option ℕ → Step
comment_by None = Found OpenComment 2
comment_by (Some n) = Skip (2 + n)

abbrev pub comment_step : List ℕ → Step
comment_step bs = if nat_eq (head_or_zero bs) 42 then comment_by (comment_len (drop 1 bs) false 0) else Found Odd 1

abbrev pub class_step : Class → ℕ → List ℕ → Step
class_step Blank b bs = Skip 1
class_step Digit b bs = number_step b bs
class_step Letter b bs = name_step bs
class_step At b bs = alias_step bs
class_step Quote b bs = text_step bs
class_step Dash b bs = dash_step bs
class_step Slash b bs = comment_step bs
class_step (SignOf kind) b bs = Found kind 1
class_step Other b bs = Found Odd 1

unfoldable pub scan_step : List ℕ → Step
scan_step [] = Found Finish 0
scan_step (b ∷ bs) = class_step (class_of b) b bs

abbrev pub step_len : Step → ℕ
step_len (Skip n) = n
step_len (Found kind n) = n

abbrev pub SkipsSome : Step → Type 0
SkipsSome (Skip n) = 0 < n
SkipsSome (Found kind n) = Unit {0}

-- the kind of the end of a text, which no token in the text has
abbrev pub is_finish : Kind → Bool
is_finish Finish = true
is_finish kind = false

abbrev pub IsTokenStep : Step → Type 0
IsTokenStep (Skip n) = Unit {0}
IsTokenStep (Found kind n) = is_finish kind ≡ false

abbrev pub IsTokenClass : Class → Type 0
IsTokenClass (SignOf kind) = is_finish kind ≡ false
IsTokenClass class = Unit {0}

abbrev pub IsNoBlank : Step → Type 0
IsNoBlank (Skip n) = ⊥
IsNoBlank (Found kind n) = Unit {0}

abbrev pub fresh : History
fresh = record { stood = none_occurred; ended = false }

-- the tokens after the first `skip` bytes; these bytes are the rest of a token, a blank or a comment that began before
-- them
unfoldable pub lex_behind : List ℕ → ℕ → ℕ → List (Piece Sign)
lex_behind [] skip at = []
lex_behind (b ∷ bs) (suc skip) at = lex_behind bs skip (at + 1)
lex_behind (b ∷ bs) zero at =
    elim (scan_step (b ∷ bs)) [
      | Skip n ↦ lex_behind bs (n - 1) (at + 1)
      | Found kind n ↦ record { sign = record { kind = kind; text = take n (b ∷ bs) }; start = at } ∷ lex_behind bs
          (n - 1) (at + 1)
    ]

abbrev pub lex : ℕ → List ℕ → List (Piece Sign)
lex at bytes = lex_behind bytes 0 at

-- the state of the tokenizer: the text, the offset of the next token, and the names that have occurred
pub record ScanState : Type 0 where
  pub source : List ℕ
  pub at : ℕ
  pub history : History

-- the text has the token at the given offsets, regardless of the tokens before it
pub record IsLexeme (source : List ℕ) (found : Lexeme) : Type 0 where
  pub rises : found.start ≤ found.stop
  pub within : found.stop ≤ length source
  pub token : scan_step (drop found.start source) ≡ Found found.kind (found.stop - found.start)
  pub some : found.start < length source → found.start < found.stop
  pub proper : found.start < length source → is_finish found.kind ≡ false

unfoldable pub stream_of : ScanState → Stream Sign
stream_of r = record { pieces = in_context r.history (lex r.at (drop r.at r.source)); end = length r.source }

-- the next token; at the end of the text, a token of the kind `Finish`
abbrev pub next_of : Stream Sign → Piece Sign
next_of s = elim s.pieces [ [] ↦ record { sign = record { kind = Finish; text = [] }; start = s.end } | p ∷ ps ↦ p ]

abbrev pub behind_next : Stream Sign → Stream Sign
behind_next s = elim s.pieces [ [] ↦ s | p ∷ ps ↦ record { pieces = ps; end = s.end } ]
