use Rattle.std.proofs.Common.{◌∙◌, length, sym}
use Rattle.std.proofs.lemmas.Bool.{eqb-true}
use Rattle.ps_text.proofs.BytesAndDigits.Bytes.Moves.{is_empty_false}
use Rattle.ps_text.proofs.BytesAndDigits.Bytes.Single.{refuted}
use Rattle.ps_certificate.proofs.ReadCertificates.ByteSteps.{end_reads, end_fails, end_missing}
use Rattle.ps_certificate.proofs.fields.line_end.Goals as goal

pub returns-then-not-comes : goal.returns-then-not-comes
returns-then-not-comes c =
    end_fails c.args.left.now c.args.cursor.now (refuted c.comes.ensures.1 c.if-not-comes.true) c.refusal.ensures

pub returns-then-not-is_empty : goal.returns-then-not-is_empty
returns-then-not-is_empty c = end_missing c.args.left.now c.args.cursor.now (c.comes.ensures.0 c.if-not-comes.false)
    (is_empty_false c.args.left.now c.is_empty.ensures c.if-not-is_empty.true) c.refusal-then-not-is_empty.ensures

pub returns : goal.returns
returns c = end_reads c.args.left.now c.args.cursor.now (c.comes.ensures.0 c.if-not-comes.false) c.step.ensures.next
    (eqb-true (length c.args.left.now) 0 (sym c.is_empty.ensures ∙ c.if-not-is_empty.false))
