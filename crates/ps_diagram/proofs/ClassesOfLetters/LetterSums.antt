-- The bits of the sum of two letters, of which one is over the propositions of a mask, and the other over the others.
use Rattle.std.proofs.Common.{◌≡◌, ℕ, zero, suc, ◌+◌, ◌/◌, ◌%◌, ◌<◌, false, cond, arith, inl, inr}
use Rattle.std.specs.Int.{bit_at}
use Rattle.std.proofs.lemmas.Nat.Bits.{bit_at_lowest, bit_at-suc, bit_at-lt}
use Rattle.ps_label.specs.Truth.{is_in}
use Rattle.ps_diagram.specs.Hidden.{IsClear, IsOver}
use Rattle.ps_diagram.proofs.NodeTables.Cells.{bool_cases}

-- no bit is set in both of two numbers
pub record AreApart (x y : ℕ) : Type 0 where
  pub apart : (p : ℕ) → bit_at x p + bit_at y p < 2

pub low_apart : (x y : ℕ) → AreApart x y → x % 2 + y % 2 < 2
low_apart x y h = omega (arith, bit_at_lowest x, bit_at_lowest y, h.apart 0)

pub rest_apart : (x y : ℕ) → AreApart x y → AreApart (x / 2) (y / 2)
rest_apart x y h = record { apart = λ p. omega (arith, bit_at-suc x p, bit_at-suc y p, h.apart (suc p)) }

pub bit_of_sum : (p x y : ℕ) → AreApart x y → bit_at (x + y) p ≡ bit_at x p + bit_at y p
bit_of_sum zero x y h = omega (arith, bit_at_lowest (x + y), low_apart x y h, bit_at_lowest x, bit_at_lowest y)
bit_of_sum (suc p) x y h =
    let half : (x + y) / 2 ≡ x / 2 + y / 2 = omega (arith, low_apart x y h) in
    let rest = bit_of_sum p (x / 2) (y / 2) (rest_apart x y h) in
    rw (bit_at-suc (x + y) p, bit_at-suc x p, bit_at-suc y p, half) rest

module _ (mask x y : ℕ) (clear : IsClear mask x) (over : IsOver mask y) where
  are_apart : AreApart x y
  are_apart = record {
    apart = λ p. elim (bool_cases (is_in p mask)) [
      | inl is ↦ let off : is_in p x ≡ false = clear p is in grind (arith, bit_at-lt x p, bit_at-lt y p)
      | inr isnt ↦ let off : is_in p y ≡ false = over p isnt in grind (arith, bit_at-lt x p, bit_at-lt y p)
    ];
  }

  pub in_sum : (p : ℕ) → is_in p (x + y) ≡ cond (is_in p mask) (is_in p y) (is_in p x)
  in_sum p =
      let sum = bit_of_sum p x y are_apart in
      elim (bool_cases (is_in p mask)) [
        | inl is ↦ let off : is_in p x ≡ false = clear p is in rw is (grind (arith, sum, bit_at-lt x p, bit_at-lt y p))
        | inr isnt ↦ let off : is_in p y ≡ false = over p isnt in
            rw isnt (grind (arith, sum, bit_at-lt x p, bit_at-lt y p))
      ]
