-- Lemmas about the function `numeral`, which gives the longest number without leading zeros with which bytes begin.
use Rattle.std.proofs.Common.{rules, ◌≡◌, ℕ, ◌<◌, true, false, eqb, List, [], ◌∷◌, ◌++◌, length, drop, refl, sym, ap}
use Rattle.std.proofs.Common.{ap₂, subst, inl, inr, ◌∙◌, append_assoc, append-nil, arith, length-append}
use Rattle.std.specs.Prelude.{take_while}
use Rattle.std.specs.Char.{is_ascii_digit}
use Rattle.std.specs.List.{All}
use Rattle.std.proofs.lemmas.List.Folds.{length-prefix_len}
use Rattle.std.proofs.lemmas.Bool.{cases_Bool, cases_eq, eq-eqb, ne_eqb, eqb-true, eqb-false}
use Rattle.std.proofs.lemmas.List.Elements.{All-nil, All-cons, All-head, All-tail, All-take, All-drop}
use Rattle.std.proofs.lemmas.List.{append_cancel_left, take-append-drop}
use Rattle.std.proofs.Math.Seq.{take-append_seam, drop-append_seam}
use Rattle.std.proofs.lemmas.List.Sums.{take_while-cons}
use Rattle.ps_text.specs.Digits.{IsDigit, BeginsWithZero, IsPlainNumber, decimal_value}
use Rattle.ps_text.proofs.BytesAndDigits.Decimals.{digit_is, digit_passes, value_grows}
use Rattle.ps_certificate.specs.Inner.Reading.{comes, numeral}
use Rattle.ps_certificate.specs.Texts.{EndsField}

-- ## The longest run

taken_digits : (bytes : List ℕ) → All IsDigit (take_while is_ascii_digit bytes)
taken_digits [] = All-nil IsDigit
taken_digits (b ∷ bytes) =
    rw take_while-cons (search (rules, cases_Bool, All-cons, digit_is, All-nil, taken_digits bytes))

taken_split : {bytes : List ℕ} → bytes ≡ take_while is_ascii_digit bytes ++ drop
    (length (take_while is_ascii_digit bytes)) bytes
taken_split {bytes} = search (rules, length-prefix_len, take-append-drop)

taken_over : (digits more : List ℕ) → All IsDigit digits
    → take_while is_ascii_digit (digits ++ more) ≡ digits ++ take_while is_ascii_digit more
taken_over [] more h = refl
taken_over (d ∷ digits) more h = rw (take_while-cons, digit_passes d (All-head IsDigit d digits h))
    (ap (λ xs. d ∷ xs) (taken_over digits more (All-tail IsDigit d digits h)))

-- if the bytes begin with a given byte, that byte is the head of the list
comes_is : (b : ℕ) (bytes : List ℕ) → comes b bytes ≡ true → (more : List ℕ) × (bytes ≡ b ∷ more)
comes_is b bytes h = search (rules, eqb-true)

-- the digits that `numeral` gives are a prefix of the bytes
pub numeral_split : (bytes : List ℕ) → bytes ≡ numeral bytes ++ drop (length (numeral bytes)) bytes
numeral_split bytes = search (rules, cases_Bool, comes_is, taken_split)

no_zero : (bytes : List ℕ) → comes 48 bytes ≡ false → BeginsWithZero (take_while is_ascii_digit bytes) → ⊥
no_zero bytes h k = search (rules, take_while-cons, cases_Bool, eqb-false)

-- if the list `numeral bytes` is not empty, it is a number without leading zeros
pub numeral_plain : (bytes : List ℕ) → 0 < length (numeral bytes) → IsPlainNumber (numeral bytes)
numeral_plain bytes long = search (rules, All-cons, All-nil, taken_digits, no_zero)

-- if bytes begin with a number without leading zeros, this number is a prefix of the digits that `numeral` gives
pub numeral_longest : (digits more : List ℕ) → IsPlainNumber digits
    → (m : List ℕ) × (numeral (digits ++ more) ≡ digits ++ m)
numeral_longest [] more h = absurd (omega (arith, h.0.0))
numeral_longest (d ∷ digits) more h = elim (cases_eq d 48) [
  | inl zero_first ↦ ([], only_zero digits (eq-eqb d 48 zero_first) zero_first h.1)
  | inr other ↦ (take_while is_ascii_digit more, rw (ne_eqb d 48 other) (taken_over (d ∷ digits) more h.0.1))
]
  where
    only_zero : (rest : List ℕ) → eqb d 48 ≡ true → d ≡ 48 → (1 < length (d ∷ rest) → ¬ BeginsWithZero (d ∷ rest))
        → numeral ((d ∷ rest) ++ more) ≡ (d ∷ rest) ++ []
    only_zero [] e z none = rw e (ap (λ x. x ∷ []) (sym z))
    only_zero (c ∷ rest) e z none = absurd (none (omega arith) z)

-- each nonempty prefix of a number without leading zeros is also a number without leading zeros
pub plain_front : (a b : List ℕ) → 0 < length a → IsPlainNumber (a ++ b) → IsPlainNumber a
plain_front [] b l h = absurd (omega arith)
plain_front (d ∷ a) b l h =
    grind (arith, length-append a b, take-append_seam (d ∷ a) b, All-take IsDigit (length (d ∷ a)) ((d ∷ a) ++ b) h.0.1)

-- if a space, a newline or a colon follows a number without leading zeros, `numeral` gives exactly this number
pub numeral_ended : {digits : List ℕ} (more : List ℕ) → IsPlainNumber digits → EndsField more →
    numeral (digits ++ more) ≡ digits
numeral_ended {digits} more h ends = go long.0 long.1
  where
    long : (m : List ℕ) × (numeral (digits ++ more) ≡ digits ++ m)
    long = numeral_longest digits more h

    no_end : (x : ℕ) (xs : List ℕ) → EndsField (x ∷ xs) → IsDigit x → ⊥
    no_end x xs (inl e) d = omega (arith, e, d.0)
    no_end x xs (inr (inl e)) d = omega (arith, e, d.0)
    no_end x xs (inr (inr e)) d = omega (arith, e, d.1)

    go : (m : List ℕ) → numeral (digits ++ more) ≡ digits ++ m → numeral (digits ++ more) ≡ digits
    go [] e = e ∙ append-nil digits
    go (x ∷ m) e =
        let rest = drop (length (numeral (digits ++ more))) (digits ++ more) in
        let whole : digits ++ more ≡ (digits ++ x ∷ m) ++ rest =
        numeral_split (digits ++ more) ∙ ap (λ r. r ++ rest) e in
        let tail : more ≡ (x ∷ m) ++ rest =
        append_cancel_left digits more ((x ∷ m) ++ rest) (whole ∙ append_assoc digits (x ∷ m) rest) in
        let plain : IsPlainNumber (digits ++ x ∷ m) = search (rules, numeral_plain) in
        let digit : IsDigit x = All-head IsDigit x m (subst (All IsDigit)
        (drop-append_seam digits (x ∷ m)) (All-drop IsDigit (length digits) (digits ++ x ∷ m) plain.0.1)) in
        absurd (no_end x (m ++ rest) (subst EndsField tail ends) digit)

-- a number without leading zeros whose value is 0 is the single digit `0`
pub zero_is : (digits : List ℕ) → IsPlainNumber digits → decimal_value digits ≡ 0 → digits ≡ 48 ∷ []
zero_is [] h e = absurd (omega (arith, h.0.0))
zero_is (d ∷ digits) h e = go digits refl
  where
    lead : d ≡ 48
    lead = let low = All-head IsDigit d digits h.0.1 in omega (arith, low.0, e, value_grows (d ∷ []) digits)

    go : (rest : List ℕ) → digits ≡ rest → d ∷ digits ≡ 48 ∷ []
    go [] s = ap₂ (λ (x : ℕ) (xs : List ℕ). x ∷ xs) lead s
    go (c ∷ rest) s = absurd (h.1 (let l : length digits ≡ length (c ∷ rest) = ap length s in omega (arith, l)) lead)

pub numeral_zero : {digits : List ℕ} (more : List ℕ) → IsPlainNumber digits → decimal_value digits ≡ 0
    → numeral (digits ++ more) ≡ digits
numeral_zero {digits} more h e = let z = zero_is digits h e in ap (λ r. numeral (r ++ more)) z ∙ sym z
