-- Numbers with fewer than 18 digits fit in 64 bits.
use Rattle.std.proofs.Common.{◌≡◌, ℕ, ◌+◌, ◌-◌, ◌*◌, ◌^◌, ◌<◌, ◌≤◌, true, add-one, arith, rules}
use Rattle.std.proofs.Math.Nat.{pow-suc, pow-le-pow_right}
use Rattle.std.specs.Char.{is_ascii_digit}
use Rattle.ps_text.proofs.BytesAndDigits.Decimals.{digit_is}

-- the value of a digit is at most 9
pub digit_small : (b : ℕ) → is_ascii_digit b ≡ true → b - 48 ≤ 9
digit_small b e = let d = digit_is b e in omega (arith, d.1)

pub few_small : (value digits : ℕ) → value < 10 ^ digits → digits < 18 → value < 100000000000000000
few_small value digits l d = search (rules, pow-le-pow_right)

pub few_more : (value digits d : ℕ) → value < 10 ^ digits → d ≤ 9 → value * 10 + d < 10 ^ (digits + 1)
few_more value digits d l h = grind (arith, add-one digits, pow-suc 10 digits)
