-- Functions that repeat, and their greatest values.
use Rattle.std.proofs.Common.{◌≡◌, ℕ, zero, suc, ◌+◌, ◌*◌, ◌-◌, ◌/◌, ◌%◌, ◌<◌, ◌≤◌, inl, inr, ap, ◌∙◌}
use Rattle.std.proofs.Common.{arith}
use Rattle.std.proofs.Math.Nat.{div-add-mod, mul-le-mul_left}
use Rattle.std.proofs.lemmas.Bool.{cases_lt}
use Rattle.ps_automaton.specs.Autos.{greatest_from}
use Rattle.ps_label.specs.Words.{Repeats}

-- the greatest value is one of the values
pub record IsAttained (f : ℕ → ℕ) (from count : ℕ) : Type 0 where
  pub at : ℕ
  pub low : from ≤ at
  pub high : at < from + count
  pub is : f at ≡ greatest_from f from count

pub attained : (f : ℕ → ℕ) (from count : ℕ) → IsAttained f from (suc count)
attained f from zero = record { at = from; low = omega arith; high = omega arith; is = omega arith }
attained f from (suc count) =
    let later = attained f (from + 1) count in
    let low = later.low in
    let high = later.high in
    let is = later.is in
    elim (cases_lt (f from) (f later.at)) [
      | inl less ↦ record { at = later.at; low = omega arith; high = omega arith; is = omega arith }
      | inr more ↦ record { at = from; low = omega arith; high = omega arith; is = omega arith }
    ]

pub repeats_later : (f : ℕ → ℕ) (from count later : ℕ) → from ≤ later → Repeats f from count → Repeats f later count
repeats_later f from count later le again t low = again t (omega arith)

-- two numbers with the same remainder are some multiple of the divisor apart
pub record AreApartBy (n i j : ℕ) : Type 0 where
  pub times : ℕ
  pub some : 0 < times
  pub far : j ≡ i + times * n

pub apart_by : (n i j : ℕ) → i < j → i % n ≡ j % n → AreApartBy n i j
apart_by n i j rises same =
    let q = i / n in
    let r = j / n in
    let first = div-add-mod i n in
    let second = div-add-mod j n in
    elim (cases_lt q r) [
      | inl less ↦ record {
        times = r - q;
        some = omega arith;
        far =
            (let is : r ≡ q + (r - q) = omega arith in
            let product : n * r ≡ n * q + n * (r - q) = ap (λ (m : ℕ). n * m) is ∙ omega arith in
            omega arith);
      }
      | inr more ↦ (let le : n * r ≤ n * q = mul-le-mul_left n more in absurd (omega arith))
    ]
