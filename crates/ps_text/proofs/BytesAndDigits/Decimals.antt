-- Decimal numbers.
-- - `digit_is`, `digit_passes`: a byte is a digit (`IsDigit`) if and only if it passes the test `is_ascii_digit`
-- - `value_pushed`, `value_more`: one more digit changes the value to ten times the value plus the digit
-- - `value_grows`, `value_front`: more digits never denote a smaller number
-- - `IsNumberText n digits`: `digits` have no leading zero and denote n
-- - `number_text`, `plain`: the digits that are written for a number less than 2^64 denote it, and have no leading zero
use Rattle.std.proofs.Common.{◌≡◌, ℕ, ◌+◌, ◌-◌, ◌*◌, ◌/◌, ◌%◌, ◌^◌, ◌<◌, ◌≤◌, true, List, [], ◌∷◌, ◌++◌, length}
use Rattle.std.proofs.Common.{get_or, take, drop, refl, ap, ◌∙◌, arith, length-append, rules, take-append-drop}
use Rattle.std.specs.Prelude.{decimal}
use Rattle.std.specs.Char.{is_ascii_digit}
use Rattle.std.specs.List.{All}
use Rattle.std.proofs.lemmas.Bool.{le-leb}
use Rattle.std.proofs.lemmas.Fmt.{decimal_by_steps}
use Rattle.std.proofs.lemmas.Int.Digits.{number_push, number_after_append, number_after_ge}
use Rattle.std.proofs.lemmas.List.{map-append, take_more}
use Rattle.std.proofs.lemmas.List.Elements.{All-nil, All-cons, All-append, All-head, All-tail}
use Rattle.ps_text.specs.Digits.{IsDigit, BeginsWithZero, IsPlainNumber, decimal_value}
use Rattle.ps_text.specs.Runs.{AllOf}

-- ## Digits

pub digit_is : (b : ℕ) → is_ascii_digit b ≡ true → IsDigit b
digit_is b e = (grind arith, grind arith)

pub digit_passes : (b : ℕ) → IsDigit b → is_ascii_digit b ≡ true
digit_passes b h = rw (le-leb 48 b h.0, le-leb b 57 h.1) refl

digits_pass : (digits : List ℕ) → All IsDigit digits → AllOf is_ascii_digit digits
digits_pass [] h = tt
digits_pass (d ∷ ds) h = (digit_passes d (All-head IsDigit d ds h), digits_pass ds (All-tail IsDigit d ds h))

-- ## Values

pub value_pushed : (ds : List ℕ) (d : ℕ) → decimal_value (ds ++ d ∷ []) ≡ decimal_value ds * 10 + (d - 48)
value_pushed ds d = search (rules, map-append, number_push)

pub value_more : (ds : List ℕ) (i : ℕ) → i < length ds →
    decimal_value (take (i + 1) ds) ≡ decimal_value (take i ds) * 10 + (get_or ds i 0 - 48)
value_more ds i l = ap decimal_value (take_more ds i 0 l) ∙ value_pushed (take i ds) (get_or ds i 0)

pub value_grows : (a b : List ℕ) → decimal_value a ≤ decimal_value (a ++ b)
value_grows a b = search (rules, map-append, number_after_append, number_after_ge)

pub value_front : (ds : List ℕ) (i : ℕ) → decimal_value (take i ds) ≤ decimal_value ds
value_front ds i = grind (arith, take-append-drop i ds, value_grows (take i ds) (drop i ds))

-- ## The written form of numbers

pub record IsNumberText (n : ℕ) (digits : List ℕ) : Type 0 where
  pub some : 0 < length digits
  pub all : All IsDigit digits
  pub pass : AllOf is_ascii_digit digits
  pub value : decimal_value digits ≡ n
  pub lead : 0 < n → ¬ BeginsWithZero digits
  pub short : n < 10 → length digits ≡ 1

begins_more : (ds more : List ℕ) → 0 < length ds → BeginsWithZero (ds ++ more) → BeginsWithZero ds
begins_more ds more l h = search rules

pub number_text : (number : ℕ) → number < 2 ^ 64 → IsNumberText number (decimal number)
number_text n small = decimal_by_steps IsNumberText one further n small
  where
    one_digit : (d : ℕ) → d < 10 → All IsDigit ((48 + d) ∷ [])
    one_digit d l = All-cons IsDigit (48 + d) [] (omega arith, omega arith) (All-nil IsDigit)

    one : (n : ℕ) → n < 10 → IsNumberText n ((48 + n) ∷ [])
    one n l = search (rules, digits_pass)

    further : (n : ℕ) (ds : List ℕ) → 10 ≤ n → IsNumberText (n / 10) ds → IsNumberText n (ds ++ ((48 + n % 10) ∷ []))
    further n ds l h =
        let d = 48 + n % 10 in
        let all = All-append IsDigit ds (d ∷ []) h.all (one_digit (n % 10) (omega arith)) in
        grind (arith, length-append, digits_pass, value_pushed, begins_more)

pub plain : (n : ℕ) → n < 2 ^ 64 → IsPlainNumber (decimal n)
plain n small = search (rules, number_text)
