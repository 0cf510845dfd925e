-- Lemmas about a set of numbers that is stored as one number: the number's bit k is 1 if k is in the set.
use Rattle.std.proofs.Common.{◌≡◌, ℕ, ◌+◌, ◌*◌, ◌^◌, ◌%◌, ◌<◌, List}
use Rattle.std.proofs.Common.{◌∷◌, length, drop, get_or, arith, add-one, drop-cons, bit_and, bit_or}
use Rattle.std.proofs.Common.{w64, refl, true, false}
use Rattle.std.specs.Int.{bit_not, trailing_zeros}
use Rattle.std.specs.Prelude.{◌||◌, ◌&&◌, nat_eq, not}
use Rattle.std.proofs.lemmas.Nat.{one_shl, and_le_l}
use Rattle.std.proofs.Math.Arith.{lt_of_le-ne}
use Rattle.std.proofs.lemmas.Nat.Bits.{bit_at_or, bit_at_and, bit_at_not, bit_at-lt, bit_at-pow_same, bit_at-pow_other}
use Rattle.std.proofs.lemmas.Nat.Bits.{bit_at-zero, bit_at-trailing_zeros, bit_at_clear_same, bit_at_clear_other}
use Rattle.ps_label.specs.Truth.{is_in}
use Rattle.ps_hoa.specs.Files.{is_among}

pub in_or : (p a b : ℕ) → is_in p (bit_or a b) ≡ (is_in p a || is_in p b)
in_or p a b = grind (arith, bit_at_or a b p, bit_at-lt a p, bit_at-lt b p)

pub same_bit : (x y : ℕ) → x < 2 → y < 2 → nat_eq x 1 ≡ nat_eq y 1 → x ≡ y
same_bit x y a b e = grind arith

pub in_power : (p m : ℕ) → is_in p (2 ^ m) ≡ nat_eq p m
in_power p m = grind (arith, bit_at-pow_same m, bit_at-pow_other m p)

pub in_and : (p a b : ℕ) → is_in p (bit_and a b) ≡ (is_in p a && is_in p b)
in_and p a b = grind (arith, bit_at_and a b p, bit_at-lt a p, bit_at-lt b p)

pub in_not : (p a : ℕ) → a < 2 ^ 64 → p < 64 → is_in p (bit_not w64 a) ≡ not (is_in p a)
in_not p a fits small = grind (arith, bit_at_not w64 a p fits small, bit_at-lt a p)

-- a set to which the number m is added
pub in_with : (p set m : ℕ) → m < 64 → is_in p (bit_or set (1 * 2 ^ m % 2 ^ 64)) ≡ (is_in p set || nat_eq p m)
in_with p set m small = rw (one_shl m 64 small, in_or p set (2 ^ m), in_power p m) refl

pub one_set_more : (set mask m : ℕ) (rest : List ℕ) → m < 64 →
    (is_in set (bit_or mask (1 * 2 ^ m % 2 ^ 64)) || is_among set rest) ≡ (is_in set mask || is_among set (m ∷ rest))
one_set_more set mask m rest small = rw (one_shl m 64 small, in_or set mask (2 ^ m), in_power set m) (grind arith)

pub from_place : (sets : List ℕ) (k : ℕ) → k < length sets → drop k sets ≡ get_or sets k 0 ∷ drop (k + 1) sets
from_place sets k within = rw add-one (drop-cons sets k 0 within)

pub both_among : (set a b : ℕ) {xs ys us vs : List ℕ} → is_in set a ≡ is_among set xs → is_in set b ≡ is_among set ys →
    xs ≡ us → ys ≡ vs → (is_in set a || is_in set b) ≡ (is_among set us || is_among set vs)
both_among set a b e f same alike = cc

pub in_none : (p : ℕ) → is_in p 0 ≡ false
in_none p = let is = bit_at-zero p in grind arith

-- ## The least number in a set

module _ (n : ℕ) (some : 0 < n) (fits : n < 2 ^ 64) where
  abbrev pub least : ℕ
  least = trailing_zeros w64 n

  abbrev pub without_least : ℕ
  without_least = bit_and n (bit_not w64 (1 * 2 ^ least % 2 ^ 64))

  pub least_small : least < 64
  least_small = (bit_at-trailing_zeros w64 n some fits).0

  pub least_in : is_in least n ≡ true
  least_in = let is = (bit_at-trailing_zeros w64 n some fits).1 in grind arith

  pub least_gone : is_in least without_least ≡ false
  least_gone = let is = bit_at_clear_same w64 n least least_small in grind arith

  pub others_stay : (p : ℕ) → (p ≡ least → ⊥) → p < 64 → is_in p without_least ≡ is_in p n
  others_stay p other small = let is = bit_at_clear_other w64 n least least_small p small other in grind arith

  pub fewer : without_least < n
  fewer = lt_of_le-ne (and_le_l n (bit_not w64 (1 * 2 ^ least % 2 ^ 64)))
      (λ same. cc (least_in, least_gone, same))

  pub was_in : (p : ℕ) → is_in p without_least ≡ true → is_in p n ≡ true
  was_in p h = grind (arith, in_and p n (bit_not w64 (1 * 2 ^ least % 2 ^ 64)))
