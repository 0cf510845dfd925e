use Rattle.ps_text.proofs.BytesAndDigits.Bytes.Lefts.{unread, stops_at}
use Rattle.ps_certificate.proofs.ReadCertificates.TextLaws.{chain_first, chain_version, chain_vertices, chain_odd_word}
use Rattle.ps_certificate.proofs.ReadCertificates.TextLaws.{chain_even_word}
use Rattle.ps_certificate.proofs.ReadCertificates.EntrySteps.{head_fails, past_first, past_version, number_fails}
use Rattle.ps_certificate.proofs.ReadCertificates.EntrySteps.{past_number, odd_fails}
use Rattle.ps_certificate.proofs.ReadCertificates.EntrySteps.{past_odd, even_fails, head_read}
use Rattle.ps_certificate.proofs.text.head.Goals as goal

pub returns-in_err-word : goal.returns-in_err-word
returns-in_err-word c =
    λ ids size. head_fails _ _ _ _ _ _ _ (stops_at (chain_first _ _ _) unread _ c.in_err-word.ensures)
    c.from_residual.ensures.1

pub returns-in_err-compact : goal.returns-in_err-compact
returns-in_err-compact c =
    λ ids size. head_fails _ _ _ _ _ _ _ (stops_at (chain_version _ _ _) (past_first _ _ _ c.in_ok-word.ensures) _
    c.in_err-compact.ensures) c.from_residual-in_err-compact.ensures.1

pub returns-in_err-word-2 : goal.returns-in_err-word-2
returns-in_err-word-2 c =
    λ ids size. head_fails _ _ _ _ _ _ _ (stops_at (chain_vertices _ _ _ _)
    (past_version _ _ _ c.in_ok-word.ensures c.in_ok-compact.ensures) _ c.in_err-word-2.ensures)
    c.from_residual-in_err-word-2.ensures.1

pub returns-in_err-exactly : goal.returns-in_err-exactly
returns-in_err-exactly c =
    λ ids size. head_fails _ _ _ _ _ _ _ (number_fails _ _ _ c.in_ok-word.ensures c.in_ok-compact.ensures
    c.in_ok-word-2.ensures size _ c.in_err-exactly.ensures) c.from_residual-in_err-exactly.ensures.1

pub returns-in_err-word-3 : goal.returns-in_err-word-3
returns-in_err-word-3 c =
    λ ids size. head_fails _ _ _ _ _ _ _ (stops_at (chain_odd_word _ _ _ _)
    (past_number _ _ _ c.in_ok-word.ensures c.in_ok-compact.ensures c.in_ok-word-2.ensures size c.in_ok-exactly.ensures)
    _ c.in_err-word-3.ensures) c.from_residual-in_err-word-3.ensures.1

pub returns-in_err-priorities : goal.returns-in_err-priorities
returns-in_err-priorities c =
    λ ids size. head_fails _ _ _ _ _ _ _ (odd_fails _ _ _ c.in_ok-word.ensures c.in_ok-compact.ensures
    c.in_ok-word-2.ensures size c.in_ok-exactly.ensures c.in_ok-word-3.ensures c.deref.ensures.value _
    c.in_err-priorities.ensures) c.from_residual-in_err-priorities.ensures.1

pub returns-in_err-word-4 : goal.returns-in_err-word-4
returns-in_err-word-4 c =
    λ ids size. head_fails _ _ _ _ _ _ _ (stops_at (chain_even_word _ _ _ _)
    (past_odd _ _ _ c.in_ok-word.ensures c.in_ok-compact.ensures c.in_ok-word-2.ensures size c.in_ok-exactly.ensures
    c.in_ok-word-3.ensures c.deref.ensures.value c.in_ok-priorities.ensures) _ c.in_err-word-4.ensures)
    c.from_residual-in_err-word-4.ensures.1

pub returns-in_err-priorities-2 : goal.returns-in_err-priorities-2
returns-in_err-priorities-2 c =
    λ ids size. head_fails _ _ _ _ _ _ _ (even_fails _ _ _ c.in_ok-word.ensures c.in_ok-compact.ensures
    c.in_ok-word-2.ensures size c.in_ok-exactly.ensures c.in_ok-word-3.ensures c.deref.ensures.value
    c.in_ok-priorities.ensures c.in_ok-word-4.ensures c.deref-2.ensures.value _ c.in_err-priorities-2.ensures)
    c.from_residual-in_err-priorities-2.ensures.1

pub returns : goal.returns
returns c =
    λ ids size. head_read _ _ _ c.in_ok-word.ensures c.in_ok-compact.ensures c.in_ok-word-2.ensures size
    c.in_ok-exactly.ensures c.in_ok-word-3.ensures c.deref.ensures.value c.in_ok-priorities.ensures
    c.in_ok-word-4.ensures c.deref-2.ensures.value c.in_ok-priorities-2.ensures
