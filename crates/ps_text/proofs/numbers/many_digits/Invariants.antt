use Rattle.std.proofs.Common.{length, ◌-◌}
use Rattle.ps_text.proofs.BytesAndDigits.LeadingDigits.{IsReadTo}
use Rattle.ps_text.proofs.numbers.many_digits.Given as goal

abbrev pub decreases-loop-digits : goal.decreases-loop-digits
decreases-loop-digits l = length l.text - l.digits

abbrev pub invariant-loop-digits : goal.invariant-loop-digits
invariant-loop-digits l = IsReadTo l.text l.value l.digits
