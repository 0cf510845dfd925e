use Rattle.std.proofs.Common.{arith}
use Rattle.ps_text.proofs.BytesAndDigits.Bytes.Single.{refuted}
use Rattle.ps_certificate.proofs.ReadCertificates.ByteSteps.{two_first, two_second, two_fails}
use Rattle.ps_certificate.proofs.fields.winner.Goals as goal

pub returns-then-comes : goal.returns-then-comes
returns-then-comes c = two_first 48 49 0 1 c.args.cursor.now (c.comes.ensures.0 c.if-comes.true) c.step.ensures.next

pub returns-then-comes-2 : goal.returns-then-comes-2
returns-then-comes-2 c =
    two_second 48 49 0 1 c.args.cursor.now (λ e. omega (arith, e)) (c.comes-2.ensures.0 c.if-comes-2.true)
    c.step-then-comes-2.ensures.next

pub returns : goal.returns
returns c = two_fails 48 49 0 1 c.args.cursor.now (refuted c.comes.ensures.1 c.if-comes.false)
    (refuted c.comes-2.ensures.1 c.if-comes-2.false) c.refusal.ensures
