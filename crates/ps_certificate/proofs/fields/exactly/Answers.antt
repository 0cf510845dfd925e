use Rattle.std.proofs.Common.{rules}
use Rattle.ps_certificate.proofs.ReadCertificates.Loops.{fails}
use Rattle.ps_certificate.proofs.ReadCertificates.NumberPart.{judged_fails, number_reads, number_wrong}
use Rattle.ps_certificate.proofs.ReadCertificates.ByteSteps.{ends_true, ends_false}
use Rattle.ps_certificate.proofs.fields.exactly.Goals as goal
use Rattle.ps_certificate.proofs.fields.exactly.Goals.{else-found-wanted-via-then-found-wanted+else-ends}
use Rattle.ps_certificate.proofs.fields.exactly.Goals.{else-found-wanted-via-else-found-wanted}

pub returns-in_err-found : goal.returns-in_err-found
returns-in_err-found c = fails _ _ _ _ _ _ (judged_fails _ c.in_err-found.ensures) c.from_residual.ensures.1

pub returns-then-ends : goal.returns-then-ends
returns-then-ends c =
    number_wrong _ c.in_ok-found.ensures (search (rules, ends_true)) c.if-found-wanted.true c.refusal-other_game.ensures

pub returns : goal.returns
returns c = number_reads _ c.in_ok-found.ensures (search (
  rules,
  else-found-wanted-via-then-found-wanted+else-ends,
  ends_false,
  else-found-wanted-via-else-found-wanted,
))
