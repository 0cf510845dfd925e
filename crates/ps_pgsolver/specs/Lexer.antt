-- The lexer, which reads tokens one after another from the left.
use Rattle.std.specs.Prelude.{ℕ, zero, suc, Bool, List, [], ◌∷◌, ◌++◌, ◌+◌, ◌-◌, ◌==◌, nat_lt, length, take, drop}
use Rattle.std.specs.Prelude.{if◌then◌else◌}
use Rattle.std.specs.List.{prefix_len, take_while}
use Rattle.ps_text.specs.Answers.{Piece, Stream}
use Rattle.ps_text.specs.Digits.{decimal_value}
use Rattle.ps_text.specs.Bytes.{is_blank, is_digit, is_letter, is_unquoted}
use Rattle.ps_pgsolver.specs.Ends.{ends_in}
use Rattle.ps_pgsolver.specs.Signs.{Sign, Number, Word, Name, Comma, Semicolon, OpenName, Wrong}

-- the token of a run of digits after the bytes `before`: a number, or a wrong token if a letter precedes it
abbrev pub number_sign : List ℕ → List ℕ → Sign
number_sign before text = if ends_in is_letter before then Wrong else Number (decimal_value (take_while is_digit text))

abbrev pub word_sign : List ℕ → List ℕ → Sign
word_sign before text = if ends_in is_digit before then Wrong else Word (take_while is_letter text)

-- whether a name, given the bytes after its first quote, has a closing quote
abbrev pub is_closed : List ℕ → Bool
is_closed behind = nat_lt (prefix_len is_unquoted behind) (length behind)

abbrev pub name_sign : List ℕ → Sign
name_sign behind = if is_closed behind then Name (take_while is_unquoted behind) else OpenName

abbrev pub name_size : List ℕ → ℕ
name_size behind = if is_closed behind then prefix_len is_unquoted behind + 2 else prefix_len is_unquoted behind + 1

abbrev pub punctuation_sign : ℕ → Sign
punctuation_sign b = if b == 44 then Comma else (if b == 59 then Semicolon else Wrong)

-- the first token of a text that follows the bytes `before`
unfoldable pub first_sign : List ℕ → List ℕ → Sign
first_sign before [] = Wrong
first_sign before (b ∷ bs) =
    if is_digit b then number_sign before (b ∷ bs)
    else (if is_letter b then word_sign before (b ∷ bs)
    else (if b == 34 then name_sign bs
    else punctuation_sign b))

-- the length of a text's first token in bytes
unfoldable pub first_size : List ℕ → ℕ
first_size [] = 0
first_size (b ∷ bs) =
    if is_digit b then prefix_len is_digit (b ∷ bs)
    else (if is_letter b then prefix_len is_letter (b ∷ bs)
    else (if b == 34 then name_size bs
    else 1))

-- the tokens of a text that follows the bytes `before`; the text's first `skip` bytes belong to a token that was
-- already produced
unfoldable pub lex : ℕ → List ℕ → List ℕ → List (Piece Sign)
lex skip before [] = []
lex (suc skip) before (b ∷ bs) = lex skip (before ++ b ∷ []) bs
lex zero before (b ∷ bs) =
    if is_blank b then lex zero (before ++ b ∷ []) bs
    else ((record { sign = first_sign before (b ∷ bs); start = length before }) ∷ lex (first_size (b ∷ bs) - 1)
    (before ++ b ∷ []) bs)

-- the tokens of a whole text, with their offsets
abbrev pub stream_of : List ℕ → Stream Sign
stream_of text = record { pieces = lex 0 [] text; end = length text }

-- the tokens of a text from an offset on
abbrev pub stream_from : List ℕ → ℕ → Stream Sign
stream_from text at = record { pieces = lex 0 (take at text) (drop at text); end = length text }
