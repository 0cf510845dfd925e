-- Lemmas about letters, which are given as numbers or as functions from propositions to truth values.
use Rattle.std.proofs.Common.{◌≡◌, ℕ, zero, suc, ◌+◌, ◌*◌, ◌^◌, ◌<◌, ◌≤◌, Bool, true, false, cond, sym}
use Rattle.std.proofs.Common.{add-zero, ◌∙◌, arith, inl, inr}
use Rattle.std.proofs.lemmas.Bool.{cases_lt}
use Rattle.std.proofs.Math.Nat.{pow-suc}
use Rattle.std.proofs.lemmas.Nat.Bits.{bit_at_cat_low, bit_at_cat_high, bit_at_above}
use Rattle.ps_label.specs.Truth.{is_in}
use Rattle.ps_diagram.specs.Letters.{assignment, letter_of}
use Rattle.ps_diagram.specs.Tree.{Tree, leaf_at, IsFrom, HaveSameLeaves}
use Rattle.ps_diagram.proofs.Canon.{from-blind}

added : (b : Bool) (n low : ℕ) → low < 2 ^ n → low + cond b (2 ^ n) 0 < 2 ^ suc n
added b n low h = grind (arith, pow-suc)

-- the letter of n bits is less than 2^n
pub letter_lt : (n : ℕ) (f : ℕ → Bool) → letter_of n f < 2 ^ n
letter_lt zero f = omega arith
letter_lt (suc n) f = added (f n) n (letter_of n f) (letter_lt n f)

-- a number plus 2^n, written as the bit n and the number below it
on_top : (n low : ℕ) → low + 2 ^ n ≡ 1 * 2 ^ n + low
on_top n low = omega arith

-- adding 2^n to a number less than 2^n sets bit n
pub top_bit : (n low : ℕ) → low < 2 ^ n → is_in n (low + 2 ^ n) ≡ true
top_bit n low h = grind (arith, on_top, bit_at_cat_high)

-- adding 2^n leaves the bits before n as they are
pub lower_bit : (n low p : ℕ) → p < n → is_in p (low + 2 ^ n) ≡ is_in p low
lower_bit n low p h = rw (on_top n low, bit_at_cat_low 1 n low p h)

-- a number less than 2^n has no bit from n on
pub no_bit : (n low p : ℕ) → low < 2 ^ n → n ≤ p → is_in p low ≡ false
no_bit n low p h le = rw (bit_at_above low n p h le)

bit_here : (b : Bool) (n low : ℕ) → low < 2 ^ n → is_in n (low + cond b (2 ^ n) 0) ≡ b
bit_here b n low h = grind (arith, top_bit, add-zero, no_bit)

bit_below : (b : Bool) (n low p : ℕ) → p < n → is_in p (low + cond b (2 ^ n) 0) ≡ is_in p low
bit_below b n low p h = grind (arith, lower_bit, add-zero)

-- bit p of the letter is the value of the function at p
pub letter_is : (n : ℕ) (f : ℕ → Bool) (p : ℕ) → p < n → is_in p (letter_of n f) ≡ f p
letter_is zero f p h = absurd (omega arith)
letter_is (suc n) f p h = elim (cases_lt p n) [
  | inl lt ↦ bit_below (f n) n (letter_of n f) p lt ∙ letter_is n f p lt
  | inr ge ↦ let same : p ≡ n = omega arith in rw same (bit_here (f n) n (letter_of n f) (letter_lt n f))
]

-- a tree has the same leaf at a letter and at the number of this letter
pub leaf_by_number : (n : ℕ) (t : Tree) → IsFrom 0 n t → (f : ℕ → Bool) →
    leaf_at t f ≡ leaf_at t (assignment (letter_of n f))
leaf_by_number n t o f = from-blind 0 n t o f (assignment (letter_of n f)) (λ q h b. sym (letter_is n f q b))

pub same_by_numbers : (n : ℕ) (t u : Tree) → IsFrom 0 n t → IsFrom 0 n u →
    ((letter : ℕ) → letter < 2 ^ n → leaf_at t (assignment letter) ≡ leaf_at u (assignment letter)) → HaveSameLeaves t u
same_by_numbers n t u ot ou h f = grind (arith, leaf_by_number n t ot f, letter_lt n f, leaf_by_number n u ou f)
