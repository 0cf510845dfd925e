-- The tokens of an HOA text, as a relation between its bytes and a list of tokens.
-- - `Sign`: a token as the grammar sees it: its kind and its bytes
-- - `IsComment text`: a comment from `/*` to `*/`, which may contain comments
-- - `IsBlankRun text`: blanks and comments
-- - `IsName text`: a letter or `_`, followed by letters, digits, `_` and `-`
-- - `IsLongestToken kind text rest`: `text`, which `rest` follows, is a token of the kind, and is as long as possible
-- - `IsToken kind text rest`: `text` is a longest token of the kind, or the `/*` of an unclosed comment, or a single
--   byte that begins no token
-- - `AreTokens at bytes pieces`: `bytes` consist of the tokens `pieces`, with blanks between them; `at` is the offset
--   of the first byte
-- - `in_context history pieces`: the tokens, in which repeated names and tokens after `--END--` have kinds of their own
use Rattle.std.specs.Prelude.{◌≡◌, ℕ, suc, ◌+◌, ◌<◌, ◌⊎◌, ◌≢◌, ◌||◌, Bool, true, false, List, [], ◌∷◌, ◌++◌, length}
use Rattle.std.specs.Prelude.{codes, if◌then◌else◌, nat_eq, get_or, set, Option, None, Some}
use Rattle.std.specs.Str.{bytes_eq}
use Rattle.ps_text.specs.Answers.{Piece}
use Rattle.ps_hoa.specs.Bytes.{class_of, is_digit, is_name_byte}
use Rattle.ps_hoa.specs.Grammar.ItemNames.{once_named}
use Rattle.ps_hoa.specs.declared.tokens.Class.TheVariants.{Blank, Letter, Sign as SignOf}
use Rattle.ps_hoa.specs.declared.tokens.Kind.{Kind}
use Rattle.ps_hoa.specs.declared.tokens.Kind.TheVariants.{Header, HeaderAgain, Word, AliasName, Int, ZeroRun, Text}
use Rattle.ps_hoa.specs.declared.tokens.Kind.TheVariants.{Body, End, Abort, OpenComment, Odd, Behind, Finish}
use Rattle.ps_hoa.specs.declared.tokens.History.{History}

pub record Sign : Type 0 where
  pub kind : Kind
  pub text : List ℕ

-- ## Blanks

-- The bytes end a comment that was opened before them, and only their last byte ends it. The comment is nested in
-- `depth` further comments.
pub data Ends : ℕ → List ℕ → Type 0 where
  closes_last : {b c : ℕ} → b ≡ 42 → c ≡ 47 → Ends 0 (b ∷ c ∷ [])
  closes : {depth b c : ℕ} {bs : List ℕ} → b ≡ 42 → c ≡ 47 → Ends depth bs → Ends (suc depth) (b ∷ c ∷ bs)
  opens : {depth b c : ℕ} {bs : List ℕ} → b ≡ 47 → c ≡ 42 → Ends (suc depth) bs → Ends depth (b ∷ c ∷ bs)
  goes_on : {depth b c : ℕ} {bs : List ℕ} → ((b ≡ 42) × (c ≡ 47) → ⊥) → ((b ≡ 47) × (c ≡ 42) → ⊥) →
      Ends depth (c ∷ bs) → Ends depth (b ∷ c ∷ bs)

abbrev pub IsComment : List ℕ → Type 0
IsComment text = (inside : List ℕ) × (text ≡ 47 ∷ 42 ∷ inside) × Ends 0 inside

abbrev pub IsBlankPart : List ℕ → Type 0
IsBlankPart text = ((b : ℕ) × (text ≡ b ∷ []) × (class_of b ≡ Blank)) ⊎ IsComment text

pub data IsBlankRun : List ℕ → Type 0 where
  no_blank : IsBlankRun []
  blank : {part rest : List ℕ} → IsBlankPart part → IsBlankRun rest → (all : List ℕ) →
      all ≡ part ++ rest → IsBlankRun all

-- ## Tokens

abbrev pub AllBytes : (ℕ → Bool) → List ℕ → Type 0
AllBytes p [] = Unit {0}
AllBytes p (b ∷ bs) = (p b ≡ true) × AllBytes p bs

abbrev pub IsName : List ℕ → Type 0
IsName [] = ⊥
IsName (b ∷ bs) = (class_of b ≡ Letter) × AllBytes is_name_byte bs

abbrev pub BeginsWithZero : List ℕ → Type 0
BeginsWithZero [] = ⊥
BeginsWithZero (b ∷ bs) = b ≡ 48

-- what is between quotes: bytes other than `"` and a backslash, and pairs of a backslash and any byte
pub data IsQuoted : List ℕ → Type 0 where
  nothing : IsQuoted []
  plain : {b : ℕ} {bs : List ℕ} → b ≢ 34 → b ≢ 92 → IsQuoted bs → IsQuoted (b ∷ bs)
  escaped : {b c : ℕ} {bs : List ℕ} → b ≡ 92 → IsQuoted bs → IsQuoted (b ∷ c ∷ bs)

-- the bytes that a token of each kind may consist of; a punctuation mark is a single byte
abbrev pub HasForm : Kind → List ℕ → Type 0
HasForm Header text = (name : List ℕ) × IsName name × (text ≡ name ++ 58 ∷ [])
HasForm Word text = IsName text
HasForm AliasName text = (name : List ℕ) × (0 < length name) × AllBytes is_name_byte name × (text ≡ 64 ∷ name)
HasForm Int text = (0 < length text) × AllBytes is_digit text × (1 < length text → BeginsWithZero text → ⊥)
HasForm ZeroRun text = (1 < length text) × AllBytes is_digit text × BeginsWithZero text
HasForm Text text = (inside : List ℕ) × IsQuoted inside × (text ≡ 34 ∷ inside ++ 34 ∷ [])
HasForm Body text = text ≡ codes "--BODY--"
HasForm End text = text ≡ codes "--END--"
HasForm Abort text = text ≡ codes "--ABORT--"
HasForm HeaderAgain text = ⊥
HasForm OpenComment text = ⊥
HasForm Odd text = ⊥
HasForm Behind text = ⊥
HasForm Finish text = ⊥
HasForm kind text = (b : ℕ) × (text ≡ b ∷ []) × (class_of b ≡ SignOf kind)

-- the bytes that would make a token of the given kind longer
abbrev pub lengthens : Kind → ℕ → Bool
lengthens Word b = is_name_byte b || nat_eq b 58
lengthens AliasName b = is_name_byte b
lengthens Int b = is_digit b
lengthens ZeroRun b = is_digit b
lengthens kind b = false

abbrev pub StopsBefore : (ℕ → Bool) → List ℕ → Type 0
StopsBefore p [] = Unit {0}
StopsBefore p (b ∷ bs) = p b ≡ false

pub record IsLongestToken (kind : Kind) (text rest : List ℕ) : Type 0 where
  pub form : HasForm kind text
  pub longest : StopsBefore (lengthens kind) rest

-- the bytes begin with `/*`, which opens a comment that is not closed
pub record IsUnclosedComment (text rest : List ℕ) : Type 0 where
  pub begins : text ≡ codes "/*"
  pub unclosed : (comment more : List ℕ) → text ++ rest ≡ comment ++ more → IsComment comment → ⊥

-- `text` is a single byte, and no token, comment or blank begins with it
pub record IsOdd (text rest : List ℕ) : Type 0 where
  pub byte : ℕ
  pub text_is : text ≡ byte ∷ []
  pub no_blank : class_of byte ≢ Blank
  pub no_comment : (more : List ℕ) → text ++ rest ≡ codes "/*" ++ more → ⊥
  pub no_token : (kind : Kind) (token more : List ℕ) → text ++ rest ≡ token ++ more → IsLongestToken kind token more → ⊥

abbrev pub IsToken : Kind → List ℕ → List ℕ → Type 0
IsToken OpenComment text rest = IsUnclosedComment text rest
IsToken Odd text rest = IsOdd text rest
IsToken kind text rest = IsLongestToken kind text rest

-- the bytes consist of blanks, the token `piece`, and the bytes `rest` after the token
pub record IsNext (at : ℕ) (bytes : List ℕ) (piece : Piece Sign) (rest : List ℕ) : Type 0 where
  pub blanks : List ℕ
  pub split : bytes ≡ blanks ++ (piece.sign.text ++ rest)
  pub are_blanks : IsBlankRun blanks
  pub is_token : IsToken piece.sign.kind piece.sign.text rest
  pub start : piece.start ≡ at + length blanks

abbrev pub AreTokens : ℕ → List ℕ → List (Piece Sign) → Type 0
AreTokens at bytes [] = IsBlankRun bytes
AreTokens at bytes (p ∷ ps) =
    (rest : List ℕ) × IsNext at bytes p rest × AreTokens (p.start + length p.sign.text) rest ps

-- ## Names that may occur only once, and what follows the end

-- the name has occurred before; `HOA:` always has, since each text begins with it
abbrev pub has_stood : History → Option ℕ → Bool
has_stood history None = false
has_stood history (Some once) = get_or history.stood once false

abbrev pub is_known : History → List ℕ → Bool
is_known history name = if bytes_eq name (codes "HOA:") then true else has_stood history (once_named name)

abbrev pub with_once : History → Option ℕ → History
with_once history None = history
with_once history (Some once) = record history { stood = set history.stood once true }

abbrev pub with_occurred : History → List ℕ → History
with_occurred history name = with_once history (once_named name)

-- After `--END--`, all tokens except a comment that is not closed have the kind `Behind`.
abbrev pub kind_here : History → Kind → List ℕ → Kind
kind_here history OpenComment text = OpenComment
kind_here history Finish text = Finish
kind_here history Header text =
    if history.ended then Behind else (if is_known history text then HeaderAgain else Header)
kind_here history kind text = if history.ended then Behind else kind

abbrev pub history_after : History → Kind → List ℕ → History
history_after history Header text = with_occurred history text
history_after history End text = record history { ended = true }
history_after history kind text = history

abbrev pub in_context : History → List (Piece Sign) → List (Piece Sign)
in_context history [] = []
in_context history (p ∷ ps) =
    record { sign = record { kind = kind_here history p.sign.kind p.sign.text; text = p.sign.text }; start = p.start } ∷
    in_context (history_after history p.sign.kind p.sign.text) ps
