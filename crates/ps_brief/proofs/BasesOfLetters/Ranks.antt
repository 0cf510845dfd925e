-- Numbers with reversed bits stand in the order of letters.
-- - `reversed_rises`: a letter that comes before another has the smaller number
-- - `pair_before`: pairs of letters are ordered by their places
use Rattle.std.specs.Prelude.{◌≡◌, ℕ, zero, suc, ◌+◌, ◌-◌, ◌*◌, ◌/◌, ◌%◌, ◌^◌, ◌<◌, ◌≤◌, ◌⊎◌, Bool, true, false, nat_eq}
use Rattle.std.specs.Int.{reverse_bits, reverse_bits_onto, w64, bit_at}
use Rattle.std.proofs.Common.{ap, sym, ◌∙◌, refl, inl, inr, arith}
use Rattle.std.proofs.Math.Nat.{pow-suc}
use Rattle.std.proofs.lemmas.Bool.{eqb-true}
use Rattle.std.proofs.lemmas.Bool.Decides.{nat_tests}
use Rattle.std.proofs.lemmas.Nat.Bits.{bit_at_lowest, bit_at-lt}
use Rattle.ps_label.specs.Truth.{is_in}
use Rattle.ps_diagram.specs.Letters.{IsBefore}
use Rattle.ps_machine.proofs.AutomatonGames.BoardLetters.{compared}
use Rattle.ps_machine.proofs.AutomatonGames.LeastLetters.{true_is_within, half_bit}
use Rattle.ps_brief.specs.Inner.Placing.{letter_pair_place}

twice : (n : ℕ) → 2 ^ suc n ≡ 2 ^ n + 2 ^ n
twice n = omega (arith, pow-suc 2 n)

spread : (a b m r : ℕ) → (a * 2 + b) * m + r ≡ a * (m + m) + (b * m + r)
spread a b m r = omega arith

onto_apart : (n x a : ℕ) → reverse_bits_onto n x a ≡ a * 2 ^ n + reverse_bits_onto n x 0
unfolding reverse_bits_onto
onto_apart zero x a = omega arith
onto_apart (suc n) x a =
    let m : ℕ = 2 ^ n in
    let rest : ℕ = reverse_bits_onto n (x / 2) 0 in
    let one : reverse_bits_onto n (x / 2) (a * 2 + x % 2) ≡ (a * 2 + x % 2) * m + rest =
    onto_apart n (x / 2) (a * 2 + x % 2) in
    let other : reverse_bits_onto n (x / 2) (0 * 2 + x % 2) ≡ (0 * 2 + x % 2) * m + rest =
    onto_apart n (x / 2) (0 * 2 + x % 2) in
    let wide : a * 2 ^ suc n ≡ a * (m + m) = ap (λ k. a * k) (twice n) in
    omega (arith, one, other, wide, spread a (x % 2) m rest, spread 0 (x % 2) m rest)

bit_times : (b m r : ℕ) → b < 2 → r < m → b * m + r < m + m
bit_times zero m r small less = omega arith
bit_times (suc zero) m r small less = omega arith
bit_times (suc (suc b)) m r small less = absurd (omega (arith, small))

-- the bit at which the first letter is less decides
times_decides : (b c m r s : ℕ) → b ≡ 0 → c ≡ 1 → r < m → b * m + r < c * m + s
times_decides b c m r s zero_is one_is less = rw (zero_is, one_is) (omega arith)

times_alike : (b c m r s : ℕ) → b ≡ c → r < s → b * m + r < c * m + s
times_alike b c m r s same less = rw same (omega arith)

onto_first : (n x : ℕ) → reverse_bits_onto (suc n) x 0 ≡ x % 2 * 2 ^ n + reverse_bits_onto n (x / 2) 0
unfolding reverse_bits_onto
onto_first n x =
    let at : reverse_bits_onto n (x / 2) (0 * 2 + x % 2) ≡
    (0 * 2 + x % 2) * 2 ^ n + reverse_bits_onto n (x / 2) 0 = onto_apart n (x / 2) (0 * 2 + x % 2) in
    omega (arith, at)

onto_lt : (n x : ℕ) → reverse_bits_onto n x 0 < 2 ^ n
unfolding reverse_bits_onto
onto_lt zero x = omega arith
onto_lt (suc n) x =
    let less : x % 2 * 2 ^ n + reverse_bits_onto n (x / 2) 0 < 2 ^ n + 2 ^ n =
    bit_times (x % 2) (2 ^ n) (reverse_bits_onto n (x / 2) 0) (omega arith) (onto_lt n (x / 2)) in
    omega (arith, onto_first n x, less, twice n)

not_set : (b : ℕ) → b < 2 → nat_eq b 1 ≡ false → b ≡ 0
not_set b small isnt = grind (arith, nat_tests)

set : (b : ℕ) → nat_eq b 1 ≡ true → b ≡ 1
set b is = eqb-true b 1 is

lowest_not : (x : ℕ) → is_in 0 x ≡ false → x % 2 ≡ 0
lowest_not x isnt = sym (bit_at_lowest x) ∙ not_set (bit_at x 0) (bit_at-lt x 0) isnt

lowest : (x : ℕ) → is_in 0 x ≡ true → x % 2 ≡ 1
lowest x is = sym (bit_at_lowest x) ∙ set (bit_at x 0) is

lowest_same : (x y : ℕ) → is_in 0 x ≡ is_in 0 y → x % 2 ≡ y % 2
lowest_same x y same = with_bit (is_in 0 y) refl
  where
    with_bit : (b : Bool) → is_in 0 y ≡ b → x % 2 ≡ y % 2
    with_bit true is = lowest x (same ∙ is) ∙ sym (lowest y is)
    with_bit false isnt = lowest_not x (same ∙ isnt) ∙ sym (lowest_not y isnt)

rises : (n x y first : ℕ) → first < n → is_in first x ≡ false → is_in first y ≡ true →
    ((p : ℕ) → p < first → is_in p x ≡ is_in p y) → reverse_bits_onto n x 0 < reverse_bits_onto n y 0
rises zero x y first within one other same = absurd (omega (arith, within))
rises (suc n) x y zero within one other same =
    let less : x % 2 * 2 ^ n + reverse_bits_onto n (x / 2) 0 < y % 2 * 2 ^ n + reverse_bits_onto n (y / 2) 0 =
    times_decides (x % 2) (y % 2) (2 ^ n) (reverse_bits_onto n (x / 2) 0) (reverse_bits_onto n (y / 2) 0)
    (lowest_not x one) (lowest y other) (onto_lt n (x / 2)) in
    omega (arith, onto_first n x, onto_first n y, less)
rises (suc n) x y (suc first) within one other same =
    let behind : reverse_bits_onto n (x / 2) 0 < reverse_bits_onto n (y / 2) 0 =
    rises n (x / 2) (y / 2) first (omega (arith, within)) (half_bit x first ∙ one) (half_bit y first ∙ other)
    (λ p less. half_bit x p ∙ same (suc p) (omega (arith, less)) ∙ sym (half_bit y p)) in
    let less : x % 2 * 2 ^ n + reverse_bits_onto n (x / 2) 0 < y % 2 * 2 ^ n + reverse_bits_onto n (y / 2) 0 =
    times_alike (x % 2) (y % 2) (2 ^ n) (reverse_bits_onto n (x / 2) 0) (reverse_bits_onto n (y / 2) 0)
    (lowest_same x y (same 0 (omega arith))) behind in
    omega (arith, onto_first n x, onto_first n y, less)

pub reversed_rises : (x y : ℕ) → y < 2 ^ 64 → IsBefore x y → reverse_bits w64 x < reverse_bits w64 y
reversed_rises x y within before =
    rises 64 x y before.first (true_is_within 64 y before.first within before.is_true) before.is_false before.is_true
    before.same

pub reversed_lt : (x : ℕ) → reverse_bits w64 x < 2 ^ 64
reversed_lt x = onto_lt 64 x

-- ## Pairs

place_lt : (a b c d m : ℕ) → b < m → d < m → a < c → a * m + b < c * m + d
place_lt a b c d m small other less =
    let k : ℕ = c - suc a in
    let is : c ≡ a + 1 + k = omega (arith, less) in
    let wide : c * m ≡ (a + 1 + k) * m = ap (λ e. e * m) is in
    omega (arith, wide, small)

-- the first letters differ, or else the second ones, or both are the same
pub data ArePlaced (x y z w : ℕ) : Type 0 where
  by_first : IsBefore x z → ArePlaced x y z w
  by_second : x ≡ z → IsBefore y w → ArePlaced x y z w
  alike : x ≡ z → y ≡ w → ArePlaced x y z w

module _ (n : ℕ) (few : 2 ^ n ≤ 2 ^ 64) (x y z w : ℕ) (lx : x < 2 ^ n) (ly : y < 2 ^ n) (lz : z < 2 ^ n)
    (lw : w < 2 ^ n) (order : letter_pair_place x y ≤ letter_pair_place z w) where
  by_seconds : x ≡ z → (y ≡ w) ⊎ (IsBefore y w ⊎ IsBefore w y) → ArePlaced x y z w
  by_seconds same (inl also) = alike same also
  by_seconds same (inr (inl before)) = by_second same before
  by_seconds same (inr (inr after)) = absurd (
      let less : reverse_bits w64 w < reverse_bits w64 y = reversed_rises w y (omega (arith, ly, few)) after in
      let first : reverse_bits w64 x * 2 ^ 64 ≡ reverse_bits w64 z * 2 ^ 64 =
      ap (λ k. reverse_bits w64 k * 2 ^ 64) same in
      omega (arith, less, first, order)
      )

  by_firsts : (x ≡ z) ⊎ (IsBefore x z ⊎ IsBefore z x) → ArePlaced x y z w
  by_firsts (inl same) = by_seconds same (compared n y w ly lw)
  by_firsts (inr (inl before)) = by_first before
  by_firsts (inr (inr after)) = absurd (
      let less : letter_pair_place z w < letter_pair_place x y =
      place_lt (reverse_bits w64 z) (reverse_bits w64 w) (reverse_bits w64 x) (reverse_bits w64 y) (2 ^ 64)
      (reversed_lt w) (reversed_lt y) (reversed_rises z x (omega (arith, lx, few)) after) in
      omega (arith, less, order)
      )

  pub pair_placed : ArePlaced x y z w
  pair_placed = by_firsts (compared n x z lx lz)
