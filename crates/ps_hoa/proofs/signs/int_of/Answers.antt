use Rattle.std.proofs.Common.{arith}
use Rattle.ps_text.proofs.BytesAndDigits.Decimals.{value_more}
use Rattle.ps_hoa.proofs.Reading.DigitRuns.{checked-front, checked-whole}
use Rattle.ps_hoa.proofs.signs.int_of.Goals as goal

pub returns-in_err-checked_mul : goal.returns-in_err-checked_mul
returns-in_err-checked_mul c = grind (arith, checked-front)

pub returns-in_err-value : goal.returns-in_err-value
returns-in_err-value c = grind (arith, checked-front)

pub loop-digit-preserved : goal.loop-digit-preserved
loop-digit-preserved c = grind (arith, value_more)

pub returns : goal.returns
returns c = checked-whole c.args.digits.now c.loop-digit.digit-index c.loop-digit.value c.loop-digit-test.false
    c.loop-digit.auto.digit-index-end c.loop-digit.invariant.0 c.loop-digit.invariant.1
