use Rattle.std.proofs.Common.{sym}
use Rattle.ps_certificate.proofs.ReadCertificates.PairSteps.{priority_exits, priority_fails, priority_open}
use Rattle.ps_certificate.proofs.ReadCertificates.PairSteps.{priority_low}
use Rattle.ps_certificate.proofs.ReadCertificates.PairSteps.{priority_unknown, priority_reads}
use Rattle.ps_certificate.proofs.pairs.priority.Goals as goal

pub returns-in_err-priority-clause-read : goal.returns-in_err-priority-clause-read
returns-in_err-priority-clause-read c =
    λ pairs same. priority_exits _ pairs _ _ _ _ (priority_fails _ _ pairs same _ c.number.new.cursor _
    c.in_err-priority.ensures)
    c.from_residual.ensures.1

pub returns-then-not-ends-clause-read : goal.returns-then-not-ends-clause-read
returns-then-not-ends-clause-read c =
    λ pairs same. priority_open _ _ pairs same _ _ _ c.in_ok-priority.ensures c.number.new.cursor
    (sym c.if-not-ends.ensures)
    c.refusal.ensures

pub returns-then-not-is_above-clause-read : goal.returns-then-not-is_above-clause-read
returns-then-not-is_above-clause-read c =
    λ pairs same. priority_low _ _ pairs same _ _ _ c.in_ok-priority.ensures c.number.new.cursor
    (sym c.if-not-ends.ensures)
    (sym c.if-not-is_above.ensures) c.refusal-refused.ensures

pub returns-in-Some-clause-read : goal.returns-in-Some-clause-read
returns-in-Some-clause-read c =
    λ pairs same. priority_reads _ _ pairs same _ _ _ c.in_ok-priority.ensures (sym c.if-not-is_above.ensures)
    c.in-Some.ensures.some

pub returns-in-None-clause-read : goal.returns-in-None-clause-read
returns-in-None-clause-read c =
    λ pairs same. priority_unknown _ _ pairs same _ _ _ c.in_ok-priority.ensures c.number.new.cursor
    (sym c.if-not-ends.ensures)
    (sym c.if-not-is_above.ensures) c.in-None.ensures.none c.refusal-other_game.ensures
