-- The classes of bytes in an HOA text. The class of a byte determines which tokens it can begin.
-- - `class_of b`: what a byte begins: a blank, a number, a name, an alias, a string, a comment, a one-byte token
use Rattle.std.specs.Prelude.{ℕ, Bool, true, false, List, [], ◌∷◌, if◌then◌else◌, nat_eq}
use Rattle.ps_text.specs.Bytes.{is_between}
use Rattle.ps_hoa.specs.declared.tokens.Class.{Class}
use Rattle.ps_hoa.specs.declared.tokens.Class.TheVariants.{Blank, Digit, Letter, At, Quote, Dash, Slash, Sign, Other}
use Rattle.ps_hoa.specs.declared.tokens.Kind.TheVariants.{Not, And, Or, LeftParen, RightParen, LeftBracket}
use Rattle.ps_hoa.specs.declared.tokens.Kind.TheVariants.{RightBracket, LeftBrace, RightBrace}

-- blanks are the bytes 9 to 13 and 32
unfoldable pub class_of : ℕ → Class
class_of b =
    if is_between 9 13 b then Blank
    else (if nat_eq b 32 then Blank
    else (if is_between 48 57 b then Digit
    else (if is_between 97 122 b then Letter
    else (if is_between 65 90 b then Letter
    else (if nat_eq b 95 then Letter
    else (if nat_eq b 64 then At
    else (if nat_eq b 34 then Quote
    else (if nat_eq b 45 then Dash
    else (if nat_eq b 47 then Slash
    else (if nat_eq b 33 then Sign Not
    else (if nat_eq b 38 then Sign And
    else (if nat_eq b 124 then Sign Or
    else (if nat_eq b 40 then Sign LeftParen
    else (if nat_eq b 41 then Sign RightParen
    else (if nat_eq b 91 then Sign LeftBracket
    else (if nat_eq b 93 then Sign RightBracket
    else (if nat_eq b 123 then Sign LeftBrace
    else (if nat_eq b 125 then Sign RightBrace
    else Other))))))))))))))))))

abbrev pub digits : Class → Bool
digits Digit = true
digits _ = false

abbrev pub is_digit : ℕ → Bool
is_digit b = digits (class_of b)

-- a byte that a name may contain after its first byte
abbrev pub goes_on : Class → Bool
goes_on Digit = true
goes_on Letter = true
goes_on Dash = true
goes_on _ = false

abbrev pub is_name_byte : ℕ → Bool
is_name_byte b = goes_on (class_of b)

-- the first byte is a letter from A to Z
abbrev pub begins_capital : List ℕ → Bool
begins_capital [] = false
begins_capital (b ∷ bs) = is_between 65 90 b
