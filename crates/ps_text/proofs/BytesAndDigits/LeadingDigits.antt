-- The number that the digits at the start of a text denote, computed digit by digit.
use Rattle.std.proofs.Common.{◌≡◌, ℕ, ◌+◌, ◌-◌, ◌*◌, ◌^◌, ◌<◌, ◌≤◌, true, false, List, ◌∷◌, length, map, drop, get_or}
use Rattle.std.proofs.Common.{refl, sym, ap, ◌∙◌, arith, rules}
use Rattle.std.proofs.lemmas.List.{drop_more}
use Rattle.std.proofs.lemmas.List.Sums.{take_while-cons, prefix_len-drop_all, prefix_len-drop_no}
use Rattle.std.proofs.lemmas.Int.Digits.{number_after_ge}
use Rattle.std.specs.Prelude.{take_while}
use Rattle.std.specs.Char.{is_ascii_digit}
use Rattle.std.specs.Int.Digits.{number_from_digits_after}
use Rattle.std.specs.List.{prefix_len}
use Rattle.ps_text.specs.Digits.{decimal_value}

-- the number whose decimal digits are those of n, followed by `digits`
abbrev pub value_after : ℕ → List ℕ → ℕ
value_after n digits = number_from_digits_after 10 n (map (λ b. b - 48) digits)

-- the first `digits` bytes are digits; with the leading digits of the rest, they are the leading digits of the text
abbrev pub IsCountedTo : List ℕ → ℕ → Type 0
IsCountedTo text digits = digits + prefix_len is_ascii_digit (drop digits text) ≡ prefix_len is_ascii_digit text

pub count_one : (text : List ℕ) (digits : ℕ) → digits < length text → is_ascii_digit (get_or text digits 0) ≡ true →
    IsCountedTo text digits → IsCountedTo text (digits + 1)
count_one text digits lt digit is = search (rules, drop_more)

-- `value` is the number that the first `digits` digits denote: if the unread digits are appended to it, it becomes the
-- number that all digits denote
pub record IsReadTo (text : List ℕ) (value digits : ℕ) : Type 0 where
  pub counted : IsCountedTo text digits
  pub made : value_after value (take_while is_ascii_digit (drop digits text)) ≡ decimal_value
      (take_while is_ascii_digit text)

pub read_none : (text : List ℕ) → IsReadTo text 0 0
read_none text = record { counted = omega arith; made = refl }

next_value : (text : List ℕ) (value digits : ℕ) → digits < length text → is_ascii_digit (get_or text digits 0) ≡ true →
    IsReadTo text value digits → value_after (value * 10 + (get_or text digits 0 - 48))
    (take_while is_ascii_digit (drop (digits + 1) text)) ≡ decimal_value (take_while is_ascii_digit text)
next_value text value digits lt digit is =
    let b = get_or text digits 0 in
    let bs = drop (digits + 1) text in
    let run : take_while is_ascii_digit (drop digits text) ≡ b ∷ take_while is_ascii_digit bs =
    search (rules, drop_more, take_while-cons) in
    sym (ap (value_after value) run) ∙ is.made

pub read_one : (text : List ℕ) (value digits : ℕ) → digits < length text → is_ascii_digit (get_or text digits 0)
    ≡ true → IsReadTo text value digits → IsReadTo text (value * 10 + (get_or text digits 0 - 48)) (digits + 1)
read_one text value digits lt digit is = search (rules, drop_more, next_value)

-- if the digits so far and one more denote a number of at least 2^64, then so do all digits
pub read_too_much : (text : List ℕ) (value digits : ℕ) → digits < length text →
    is_ascii_digit (get_or text digits 0) ≡ true → IsReadTo text value digits →
    2 ^ 64 ≤ value * 10 + (get_or text digits 0 - 48) → 2 ^ 64 ≤ decimal_value (take_while is_ascii_digit text)
read_too_much text value digits lt digit is large =
    let rest = take_while is_ascii_digit (drop (digits + 1) text) in
    let next = value * 10 + (get_or text digits 0 - 48) in
    omega (
      arith,
      large,
      next_value text value digits lt digit is,
      number_after_ge 10 next (map (λ b. b - 48) rest) (omega arith),
    )

read_whole : (text : List ℕ) (value digits : ℕ) → prefix_len is_ascii_digit (drop digits text) ≡ 0 → IsReadTo text
    value digits → (value ≡ decimal_value (take_while is_ascii_digit text)) × (digits ≡ prefix_len is_ascii_digit text)
read_whole text value digits none is = search rules

pub read_to_end : (text : List ℕ) (value digits : ℕ) → length text ≤ digits → IsReadTo text value digits →
    (value ≡ decimal_value (take_while is_ascii_digit text)) × (digits ≡ prefix_len is_ascii_digit text)
read_to_end text value digits le is = search (rules, read_whole, prefix_len-drop_all)

pub read_to_other : (text : List ℕ) (value digits : ℕ) → digits < length text →
    is_ascii_digit (get_or text digits 0) ≡ false → IsReadTo text value digits →
    (value ≡ decimal_value (take_while is_ascii_digit text)) × (digits ≡ prefix_len is_ascii_digit text)
read_to_other text value digits lt other is = search (rules, read_whole, prefix_len-drop_no)
