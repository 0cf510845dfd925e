use Rattle.std.proofs.Common.{◌∙◌, sym, rules}
use Rattle.ps_ids.proofs.Members.{Contains-any, Contains-none}
use Rattle.ps_text.proofs.BytesAndDigits.Bytes.Single.{refuted}
use Rattle.ps_certificate.proofs.ReadCertificates.Loops.{fails}
use Rattle.ps_certificate.proofs.ReadCertificates.NumberPart.{judged_fails, number_reads, number_wrong}
use Rattle.ps_certificate.proofs.ReadCertificates.ByteSteps.{ends_true, ends_false}
use Rattle.ps_certificate.proofs.ReadCertificates.EntrySteps.{choice_dash, choice_fails, choice_reads, place_is_vertex}
use Rattle.ps_certificate.proofs.fields.choice.Goals as goal
use Rattle.ps_certificate.proofs.fields.choice.Goals.{else-is_none-via-then-is_none+else-ends}
use Rattle.ps_certificate.proofs.fields.choice.Goals.{else-is_none-via-else-is_none}

pub returns-then-comes : goal.returns-then-comes
returns-then-comes c = choice_dash _ _ (c.comes.ensures.0 c.if-comes.true) c.step.ensures.next

pub returns-in_err-id : goal.returns-in_err-id
returns-in_err-id c =
    fails _ _ _ _ _ _ (choice_fails _ _ (refuted c.comes.ensures.1 c.if-comes.false) _
    (judged_fails _ c.in_err-id.ensures)) c.from_residual.ensures.1

pub returns-then-ends : goal.returns-then-ends
returns-then-ends c =
    choice_fails _ _ (refuted c.comes.ensures.1 c.if-comes.false) _
    (number_wrong _ c.in_ok-id.ensures (ends_true c.in_ok-id.ensures (sym c.if-ends.ensures))
    (Contains-none c.in_ok-id.id c.args.ids.now (sym c.place-vertex.ensures.member ∙ c.if-is_none.ensures))
    c.refusal-other_game.ensures)

pub returns : goal.returns
returns c =
    choice_reads _ _ (refuted c.comes.ensures.1 c.if-comes.false)
    (number_reads _ c.in_ok-id.ensures (search (
      rules,
      else-is_none-via-then-is_none+else-ends,
      ends_false,
      else-is_none-via-else-is_none,
      Contains-any,
    ))) (c.place-vertex.ensures.place
    ∙ place_is_vertex c.args.ids.now c.in_ok-id.id)
