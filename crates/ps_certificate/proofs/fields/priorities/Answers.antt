use Rattle.std.proofs.Common.{rules}
use Rattle.ps_text.specs.Faults.{found_of}
use Rattle.ps_text.proofs.ParsedAnswers.Exits.{then_meets}
use Rattle.ps_text.proofs.ParsedAnswers.Branches.{carries_many, reads_shrinks}
use Rattle.ps_text.proofs.BytesAndDigits.Bytes.Single.{refuted}
use Rattle.ps_certificate.specs.Texts.{causes, priority}
use Rattle.ps_certificate.proofs.ReadCertificates.TextLaws.{laws_priority, digit_no_space, chain_priorities}
use Rattle.ps_certificate.proofs.ReadCertificates.Loops.{fails, priorities_fail, priorities_end}
use Rattle.ps_certificate.proofs.fields.priorities.Goals as goal

pub returns-in_err-left : goal.returns-in_err-left
returns-in_err-left c = search (rules, fails, priorities_fail)

pub more-smaller : goal.more-smaller
more-smaller c = reads_shrinks (laws_priority c.more.left.now).null c.in_ok-left.ensures

pub more-preserved : goal.more-preserved
more-preserved c = carries_many priority laws_priority digit_no_space causes c.more.invariant c.in_ok-left.ensures

pub returns : goal.returns
returns c = then_meets found_of causes (λ u. u) c.line_end.new.cursor c.line_end.result
    (chain_priorities c.args.priorities.now).joint (priorities_end c.args.priorities.now c.more.left.now
    c.args.cursor.now c.more.cursor c.more.invariant (refuted c.comes.ensures.1 c.more-test.false)) c.line_end.ensures
