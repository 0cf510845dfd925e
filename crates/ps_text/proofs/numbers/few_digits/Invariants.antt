use Rattle.std.proofs.Common.{◌^◌, ◌<◌, ◌≤◌, ◌-◌, length}
use Rattle.ps_text.proofs.BytesAndDigits.LeadingDigits.{IsCountedTo, IsReadTo}
use Rattle.ps_text.proofs.numbers.few_digits.Given as goal

abbrev pub decreases-loop-digits : goal.decreases-loop-digits
decreases-loop-digits l = length l.text - l.digits

abbrev pub invariant-loop-digits : goal.invariant-loop-digits
invariant-loop-digits l =
    (l.digits ≤ length l.text) × IsCountedTo l.text l.digits × (l.digits < 18 → IsReadTo l.text l.value l.digits × (l.value < 10 ^ l.digits))
