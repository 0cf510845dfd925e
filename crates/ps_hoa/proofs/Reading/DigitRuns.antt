-- The value of a run of digits, computed digit by digit and checked against the greatest `INT`.
use Rattle.std.proofs.Common.{◌≡◌, ℕ, ◌+◌, ◌-◌, ◌*◌, ◌<◌, ◌≤◌, cond, List, length, get_or, take, Option, None}
use Rattle.std.proofs.Common.{Some, arith}
use Rattle.std.proofs.Math.Seq.{take-length}
use Rattle.std.specs.Prelude.{nat_le}
use Rattle.ps_text.specs.Digits.{decimal_value}
use Rattle.ps_text.proofs.BytesAndDigits.Decimals.{value_more, value_front}
use Rattle.ps_hoa.specs.Grammar.Operands.{number_limit}

-- a number, or `None` if it exceeds the greatest `INT`
abbrev pub checked : ℕ → Option ℕ
checked n = cond (nat_le n number_limit) (Some n) None

checked-large : (n : ℕ) → number_limit < n → None ≡ checked n
checked-large n l = grind arith

-- if the value of the first digits exceeds the greatest `INT`, so does the value of all digits
pub checked-front : (ds : List ℕ) (i v : ℕ) → i < length ds → v ≡ decimal_value (take i ds) →
    number_limit < v * 10 + (get_or ds i 0 - 48) → None ≡ checked (decimal_value ds)
checked-front ds i v l e h =
    checked-large (decimal_value ds) (omega (arith, e, value_more ds i l, value_front ds (i + 1)))

pub checked-whole : (ds : List ℕ) (i v : ℕ) → length ds ≤ i → i ≤ length ds → v ≡ decimal_value (take i ds) →
    v ≤ number_limit → Some v ≡ checked (decimal_value ds)
checked-whole ds i v l m e h =
    let all : i ≡ length ds = omega arith in
    grind (arith, take-length)
