use Rattle.std.proofs.Common.{◌∙◌, drop, sym, rules}
use Rattle.ps_text.proofs.ParsedAnswers.Exits.{stops_behind, stops_mapped}
use Rattle.ps_certificate.specs.Texts.{causes, OfOtherGame, NotNext, number, priority}
use Rattle.ps_text.proofs.BytesAndDigits.Bytes.Lefts.{unread, exits_at}
use Rattle.ps_certificate.proofs.ReadCertificates.TextLaws.{chain_listed}
use Rattle.ps_certificate.proofs.ReadCertificates.Loops.{fails, listed_reads, is_not_next, is_next}
use Rattle.ps_certificate.proofs.ReadCertificates.NumberPart.{judged_fails, number_reads, number_wrong}
use Rattle.ps_certificate.proofs.ReadCertificates.ByteSteps.{ends_true, ends_false}
use Rattle.ps_certificate.proofs.fields.listed.Goals as goal
use Rattle.ps_certificate.proofs.fields.listed.Goals.{else-ne-via-then-ne+else-ends, else-ne-via-else-ne}

pub returns-in_err-byte : goal.returns-in_err-byte
returns-in_err-byte c =
    exits_at (chain_listed c.args.priorities.now) unread _ _ _ _ c.in_err-byte.ensures c.from_residual.ensures.1

pub returns-in_err-number : goal.returns-in_err-number
returns-in_err-number c =
    fails _ (priority c.args.priorities.now) c.args.cursor.now _ _ _
    (stops_behind causes (chain_listed c.args.priorities.now).joint c.in_ok-byte.ensures _
    (stops_mapped causes (λ _. drop 1 c.args.priorities.now) (number (NotNext c.args.priorities.now)) c.byte.new.self _
    (judged_fails (OfOtherGame (NotNext c.args.priorities.now)) c.in_err-number.ensures)))
    c.from_residual-in_err-number.ensures.1

pub returns-then-ends : goal.returns-then-ends
returns-then-ends c =
    stops_behind causes (chain_listed c.args.priorities.now).joint c.in_ok-byte.ensures _
    (stops_mapped causes (λ _. drop 1 c.args.priorities.now) (number (NotNext c.args.priorities.now)) c.byte.new.self _
    (number_wrong (NotNext c.args.priorities.now) c.in_ok-number.ensures
    (ends_true c.in_ok-number.ensures (sym c.if-ends.ensures))
    (is_not_next c.args.priorities.now c.in_ok-number.number (c.copied.ensures ∙ c.first.ensures.value) c.if-ne.ensures)
    c.refusal-other_game.ensures))

pub returns : goal.returns
returns c =
    listed_reads c.args.priorities.now c.in_ok-byte.ensures (number_reads (NotNext c.args.priorities.now)
    c.in_ok-number.ensures (search (rules, else-ne-via-then-ne+else-ends, ends_false, else-ne-via-else-ne, is_next)))
    c.without_first.ensures
