use Rattle.std.proofs.Common.{◌≡◌, ◌+◌, ◌-◌, ◌*◌, get_or, sym, subst, arith, rules}
use Rattle.ps_text.proofs.BytesAndDigits.LeadingDigits.{IsReadTo, read_none, read_one, read_too_much, read_to_end}
use Rattle.ps_text.proofs.BytesAndDigits.LeadingDigits.{read_to_other}
use Rattle.ps_text.proofs.numbers.many_digits.Goals as goal

pub loop-digits-init : goal.loop-digits-init
loop-digits-init c = search (rules, read_none)

pub returns-in_err-shifted-clause-none : goal.returns-in_err-shifted-clause-none
returns-in_err-shifted-clause-none c = search (rules, read_too_much)

pub returns-in_err-value-clause-none : goal.returns-in_err-value-clause-none
returns-in_err-value-clause-none c = search (rules, read_too_much)

pub loop-digits-preserved : goal.loop-digits-preserved
loop-digits-preserved c = let next : c.in_ok-value.value ≡ c.loop-digits.value * 10 + (get_or c.args.text.now
    c.loop-digits.digits 0 - 48) = omega (arith, c.in_ok-value.ensures.1, c.in_ok-shifted.ensures.1, c.from.ensures) in
    subst (λ value. IsReadTo c.args.text.now value (c.loop-digits.digits + 1)) (sym next) (read_one c.args.text.now
    c.loop-digits.value c.loop-digits.digits c.loop-digits-test.true (grind arith) c.loop-digits.invariant)

pub returns-else-is_ascii_digit-clause-value : goal.returns-else-is_ascii_digit-clause-value
returns-else-is_ascii_digit-clause-value c = search (rules, read_to_other)

pub returns-else-is_ascii_digit-clause-digits : goal.returns-else-is_ascii_digit-clause-digits
returns-else-is_ascii_digit-clause-digits c = search (rules, read_to_other)

pub returns-after-loop-digits-clause-value : goal.returns-after-loop-digits-clause-value
returns-after-loop-digits-clause-value c = search (rules, read_to_end)

pub returns-after-loop-digits-clause-digits : goal.returns-after-loop-digits-clause-digits
returns-after-loop-digits-clause-digits c = search (rules, read_to_end)
