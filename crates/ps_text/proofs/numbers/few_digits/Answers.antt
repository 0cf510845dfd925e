use Rattle.std.proofs.Common.{◌≡◌, ℕ, ◌+◌, ◌-◌, ◌*◌, ◌%◌, ◌<◌, ◌≤◌, true, length, get_or, arith, rules}
use Rattle.std.specs.Char.{is_ascii_digit}
use Rattle.ps_text.proofs.BytesAndDigits.LeadingDigits.{count_one, read_one}
use Rattle.ps_text.proofs.BytesAndDigits.FewDigits.{digit_small, few_small, few_more}
use Rattle.ps_text.proofs.numbers.few_digits.Goals as goal

-- a number with fewer than 18 digits, and one more digit, do not wrap
wraps_not : (value digit : ℕ) → value < 100000000000000000 → digit ≤ 9 →
    ((value * 10) % 18446744073709551616 + digit) % 18446744073709551616 ≡ value * 10 + digit
wraps_not value digit v d = omega arith

pub loop-digits-preserved : goal.loop-digits-preserved
loop-digits-preserved c =
    let text = c.args.text.now in
    let value = c.loop-digits.value in
    let digits = c.loop-digits.digits in
    let byte = get_or text digits 0 in
    let within : digits < length text = omega arith in
    let digit : is_ascii_digit byte ≡ true = grind arith in
    let read : c.from.result ≡ byte - 48 = search rules in (
      omega arith,
      count_one text digits within digit c.loop-digits.invariant.1,
      λ (few : digits + 1 < 18).
          let before = c.loop-digits.invariant.2 (omega arith) in
          let small = digit_small byte digit in
          let e = wraps_not value (byte - 48) (few_small value digits before.1 (omega arith)) small in
          rw (read, e) (read_one text value digits within digit before.0, few_more value digits (byte - 48) before.1 small),
    )
