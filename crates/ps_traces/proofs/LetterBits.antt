-- Lemmas about the bits of letters: the sum of letters without a common bit, and the letter with given bits at given
-- propositions.
use Rattle.std.proofs.Common.{◌≡◌, ℕ, zero, suc, ◌+◌, ◌^◌, ◌<◌, ◌≤◌, ◌⊎◌, inl, inr, Bool, true, false, cond}
use Rattle.std.proofs.Common.{List, [], ◌∷◌, length, get_or, nat_eq, refl, ap, sym, ◌∙◌, subst, arith, rules}
use Rattle.std.specs.List.{AllPairs}
use Rattle.std.proofs.lemmas.Bool.{cases_eq, cases_lt, eq-eqb, ne_eqb, eqb-true}
use Rattle.std.proofs.lemmas.Nat.Bits.{bit_at-zero, bit_at-lt, bit_at-pow_same}
use Rattle.std.proofs.lemmas.Nat.Bits.{bit_at-pow_other, same_from_bits}
use Rattle.ps_label.specs.Truth.{is_in}
use Rattle.ps_diagram.specs.Letters.{letter_of}
use Rattle.ps_diagram.proofs.Letters.{letter_is, letter_lt, no_bit}
use Rattle.ps_diagram.proofs.ClassesOfLetters.LetterSums.{bit_of_sum, AreApart}
use Rattle.ps_hoa.specs.Files.{is_among}
use Rattle.ps_automaton.proofs.ChainsOfSets.Bits.{same_bit}
use Rattle.ps_aiger.specs.Encoded.{letter_over}

-- ## Single bits

pub same_letter : (a b : ℕ) → ((p : ℕ) → is_in p a ≡ is_in p b) → a ≡ b
same_letter a b same = search (rules, same_from_bits, same_bit, bit_at-lt)

-- a number whose set bits are all below bit n is less than 2^n
pub few_bits : (n x : ℕ) → ((p : ℕ) → n ≤ p → is_in p x ≡ false) → x < 2 ^ n
few_bits n x off =
    let bit : ℕ → Bool = λ p. is_in p x in
    let same : letter_of n bit ≡ x =
    same_letter (letter_of n bit) x (λ p. grind (arith, cases_lt, letter_is, no_bit, letter_lt)) in
    subst (λ y. y < 2 ^ n) same (letter_lt n bit)

-- ## Sums

-- let no bit be set in both of two numbers; if one of the numbers lacks a bit, their sum has this bit exactly if the
-- other number has it
pub in_sum_left : (p x y : ℕ) → AreApart x y → is_in p y ≡ false → is_in p (x + y) ≡ is_in p x
in_sum_left p x y h off = grind (arith, bit_at-lt y p, bit_of_sum p x y h)

pub in_sum_right : (p x y : ℕ) → AreApart x y → is_in p x ≡ false → is_in p (x + y) ≡ is_in p y
in_sum_right p x y h off = grind (arith, bit_at-lt x p, bit_of_sum p x y h)

pub are_apart : (x y : ℕ) → ((p : ℕ) → (is_in p x ≡ false) ⊎ (is_in p y ≡ false)) → AreApart x y
are_apart x y each = record { apart = λ p. grind (arith, bit_at-lt x p, bit_at-lt y p, each p) }

-- ## Given bits at given propositions

-- the bit in `bits` that stands for the proposition q of the list, or false if the list does not have q
abbrev pub bit_with : ℕ → List ℕ → List Bool → Bool
bit_with q [] bits = false
bit_with q (p ∷ ps) [] = false
bit_with q (p ∷ ps) (bit ∷ bits) = cond (nat_eq q p) bit (bit_with q ps bits)

-- the list ascends, and all its numbers are greater than `low`
pub record Rises (low : ℕ) (ps : List ℕ) : Type 0 where
  pub above : (k d : ℕ) → k < length ps → low < get_or ps k d
  pub rising : AllPairs (λ p q. p < q) ps

pub rises_from : (p : ℕ) (ps : List ℕ) → AllPairs (λ p q. p < q) (p ∷ ps) → Rises p ps
rises_from p ps h = record {
  above = λ k d lt. h 0 (suc k) d (omega arith) (omega (arith, lt));
  rising = λ i j d lt within. h (suc i) (suc j) d (omega (arith, lt)) (omega (arith, within));
}

lower_off : (low q : ℕ) (ps : List ℕ) (bits : List Bool) → q ≤ low → Rises low ps → bit_with q ps bits ≡ false
lower_off low q [] bits le h = refl
lower_off low q (p ∷ ps) [] le h = refl
lower_off low q (p ∷ ps) (bit ∷ bits) le h =
    let more : low < p = h.above 0 0 (omega arith) in
    grind (arith, lower_off p q ps bits (omega arith) (rises_from p ps h.rising))

power_in : (q p : ℕ) (bit : Bool) → is_in q (cond bit (2 ^ p) 0) ≡ cond (nat_eq q p) bit false
power_in q p bit = grind (arith, bit_at-zero q, bit_at-pow_same p, bit_at-pow_other p q)

pub in_letter_over : (q : ℕ) (ps : List ℕ) (bits : List Bool) → AllPairs (λ p q. p < q) ps →
    is_in q (letter_over ps bits) ≡ bit_with q ps bits
in_letter_over q [] bits h = ap (λ n. nat_eq n 1) (bit_at-zero q)
in_letter_over q (p ∷ ps) [] h = ap (λ n. nat_eq n 1) (bit_at-zero q)
in_letter_over q (p ∷ ps) (bit ∷ bits) h =
    let rises = rises_from p ps h in
    let power = cond bit (2 ^ p) 0 in
    let rest = letter_over ps bits in
    let later : (r : ℕ) → is_in r rest ≡ bit_with r ps bits = λ r. in_letter_over r ps bits rises.rising in
    let off_here : is_in p rest ≡ false = later p ∙ lower_off p p ps bits (omega arith) rises in
    let off_there : (r : ℕ) → (r ≡ p → ⊥) → is_in r power ≡ false = search (rules, power_in, ne_eqb) in
    let apart = are_apart power rest (λ r. grind (arith, cases_eq)) in
    elim (cases_eq q p) [
      | inl same ↦ search (rules, in_sum_left, power_in, eq-eqb)
      | inr other ↦ search (rules, in_sum_right, ne_eqb)
    ]

pub bit_with_at : (ps : List ℕ) (bits : List Bool) (k : ℕ) → AllPairs (λ p q. p < q) ps → k < length ps →
    bit_with (get_or ps k 0) ps bits ≡ get_or bits k false
bit_with_at [] bits k h lt = absurd (omega (arith, lt))
bit_with_at (p ∷ ps) [] k h lt = refl
bit_with_at (p ∷ ps) (bit ∷ bits) zero h lt = grind arith
bit_with_at (p ∷ ps) (bit ∷ bits) (suc k) h lt =
    let rises = rises_from p ps h in
    grind (arith, bit_with_at ps bits k rises.rising)

pub bit_with_none : (q : ℕ) (ps : List ℕ) (bits : List Bool) → is_among q ps ≡ false → bit_with q ps bits ≡ false
bit_with_none q [] bits h = refl
bit_with_none q (p ∷ ps) [] h = refl
bit_with_none q (p ∷ ps) (bit ∷ bits) h = grind (arith, bit_with_none q ps bits)

-- ## The index of a proposition

pub record StandsIn (q : ℕ) (ps : List ℕ) : Type 0 where
  pub place : ℕ
  pub within : place < length ps
  pub is : get_or ps place 0 ≡ q

pub stands_in : (q : ℕ) (ps : List ℕ) → is_among q ps ≡ true → StandsIn q ps
stands_in q [] h = absurd (cc)
stands_in q (p ∷ ps) h = go (nat_eq q p) refl h (λ f. stands_in q ps f)
  where
    go : (b : Bool) → nat_eq q p ≡ b → cond b true (is_among q ps) ≡ true → (is_among q ps ≡ true → StandsIn q ps) →
        StandsIn q (p ∷ ps)
    go true e f later = record { place = 0; within = omega arith; is = sym (eqb-true q p e) }
    go false e f later =
        let rest = later f in record { place = suc rest.place; within = omega (arith, rest.within); is = rest.is }

pub is_there : (ps : List ℕ) (k : ℕ) → k < length ps → is_among (get_or ps k 0) ps ≡ true
is_there [] k lt = absurd (omega (arith, lt))
is_there (p ∷ ps) zero lt = grind arith
is_there (p ∷ ps) (suc k) lt = grind (arith, is_there ps k)
