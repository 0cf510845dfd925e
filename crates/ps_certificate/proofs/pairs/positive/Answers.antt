use Rattle.std.proofs.Common.{arith}
use Rattle.ps_certificate.specs.Texts.{IsZero}
use Rattle.ps_certificate.proofs.ReadCertificates.Loops.{fails}
use Rattle.ps_certificate.proofs.ReadCertificates.NumberPart.{judged_fails}
use Rattle.ps_certificate.proofs.ReadCertificates.PairSteps.{zero_fails, positive_reads}
use Rattle.ps_certificate.proofs.pairs.positive.Goals as goal

pub returns-in_err-count : goal.returns-in_err-count
returns-in_err-count c = fails _ _ _ _ _ _ (judged_fails IsZero c.in_err-count.ensures) c.from_residual.ensures.1

pub returns-then-count-eq0 : goal.returns-then-count-eq0
returns-then-count-eq0 c = zero_fails c.in_ok-count.ensures (omega arith) c.refusal-refusal.ensures

pub returns : goal.returns
returns c = positive_reads c.in_ok-count.ensures (λ e. omega (arith, e))
