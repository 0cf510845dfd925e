use Rattle.ps_text.proofs.BytesAndDigits.Bytes.Single.{refuted, byte_reads, byte_stops}
use Rattle.ps_text.proofs.cursor.Cursor.byte.Goals as goal

pub returns-then-comes : goal.returns-then-comes
returns-then-comes g c = byte_reads (c.comes.ensures.0 c.if-comes.true) c.step.ensures.next

pub returns : goal.returns
returns g c = byte_stops g.C.Cause.number c.args.byte c.args.self.now
    (refuted c.comes.ensures.1 c.if-comes.false) c.refusal.ensures
