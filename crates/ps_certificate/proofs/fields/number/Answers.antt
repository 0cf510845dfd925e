use Rattle.std.proofs.Common.{inl, inr}
use Rattle.ps_text.proofs.BytesAndDigits.Bytes.Single.{refuted}
use Rattle.ps_text.proofs.BytesAndDigits.Bytes.Moves.{is_empty_true, is_empty_false}
use Rattle.ps_certificate.proofs.ReadCertificates.ByteSteps.{zero_passed, digits_passed, none_passed}
use Rattle.ps_certificate.proofs.fields.number.Goals as goal

pub returns-then-comes : goal.returns-then-comes
returns-then-comes c = zero_passed (c.comes.ensures.0 c.if-comes.true) c.step.ensures.ahead c.step.ensures.next

pub returns-then-is_empty : goal.returns-then-is_empty
returns-then-is_empty c = (
  c.refusal-refusal.ensures,
  none_passed (refuted c.comes.ensures.1 c.if-comes.false) c.digits-digits.ensures.passes
      (inl (is_empty_true c.is_empty.ensures c.if-is_empty.true)),
)

pub returns-in-Some : goal.returns-in-Some
returns-in-Some c = digits_passed (refuted c.comes.ensures.1 c.if-comes.false) c.digits-digits.ensures.passes
    (is_empty_false c.digits-digits.result.bytes.now c.is_empty.ensures c.if-is_empty.false)
    (rw c.in-Some.is at c.digits-digits.ensures.value) (rw c.in-Some.is at c.digits-digits.ensures.small)

pub returns-in-None : goal.returns-in-None
returns-in-None c = (
  c.refusal-refusal.ensures,
  none_passed (refuted c.comes.ensures.1 c.if-comes.false) c.digits-digits.ensures.passes (inr (
    is_empty_false c.digits-digits.result.bytes.now c.is_empty.ensures c.if-is_empty.false,
    rw c.in-None.is at c.digits-digits.ensures.large,
  )),
)
