-- The classes of bytes in a specification. The class of a byte determines which tokens it can begin.
use Rattle.std.specs.Prelude.{ℕ, Bool, true, false, if◌then◌else◌, nat_eq}
use Rattle.ps_text.specs.Bytes.{is_between}
use Rattle.ps_tlsf.specs.declared.words.Prefix.TheVariants.{Not}
use Rattle.ps_tlsf.specs.declared.words.Sign.TheVariants as signs
use Rattle.ps_tlsf.specs.declared.tokens.Class.{Class}
use Rattle.ps_tlsf.specs.declared.tokens.Class.TheVariants.{Blank, Letter, Digit, Quote, Slash, Ampersand, Bar, Dash}
use Rattle.ps_tlsf.specs.declared.tokens.Class.TheVariants.{Less, Sign, Other}

-- Blanks are the bytes 9 to 13 and 32. Digits, `'` and `@` may stand in a word after its first byte.
unfoldable pub class_of : ℕ → Class
class_of b =
    if is_between 9 13 b then Blank
    else (if nat_eq b 32 then Blank
    else (if is_between 97 122 b then Letter
    else (if is_between 65 90 b then Letter
    else (if nat_eq b 95 then Letter
    else (if is_between 48 57 b then Digit
    else (if nat_eq b 39 then Digit
    else (if nat_eq b 64 then Digit
    else (if nat_eq b 34 then Quote
    else (if nat_eq b 47 then Slash
    else (if nat_eq b 38 then Ampersand
    else (if nat_eq b 124 then Bar
    else (if nat_eq b 45 then Dash
    else (if nat_eq b 60 then Less
    else (if nat_eq b 123 then Sign signs.LeftBrace
    else (if nat_eq b 125 then Sign signs.RightBrace
    else (if nat_eq b 40 then Sign signs.LeftParen
    else (if nat_eq b 41 then Sign signs.RightParen
    else (if nat_eq b 59 then Sign signs.Semicolon
    else (if nat_eq b 58 then Sign signs.Colon
    else (if nat_eq b 44 then Sign signs.Comma
    else (if nat_eq b 33 then Sign (signs.Prefix Not)
    else Other)))))))))))))))))))))

abbrev pub goes_on : Class → Bool
goes_on Letter = true
goes_on Digit = true
goes_on _ = false

-- a byte that a word may contain after its first byte
abbrev pub is_word_byte : ℕ → Bool
is_word_byte b = goes_on (class_of b)
