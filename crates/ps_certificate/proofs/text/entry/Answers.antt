use Rattle.ps_text.proofs.BytesAndDigits.Bytes.Lefts.{unread, exits_at}
use Rattle.ps_certificate.specs.Texts.{entry}
use Rattle.ps_certificate.proofs.ReadCertificates.Loops.{fails}
use Rattle.ps_certificate.proofs.ReadCertificates.TextLaws.{chain_id, chain_space, chain_winner, chain_second}
use Rattle.ps_certificate.proofs.ReadCertificates.TextLaws.{chain_choice}
use Rattle.ps_certificate.proofs.ReadCertificates.EntrySteps.{past_id, past_space, past_winner, past_second}
use Rattle.ps_certificate.proofs.ReadCertificates.EntrySteps.{counts_fail, entry_reads}
use Rattle.ps_certificate.proofs.text.entry.Goals as goal

pub returns-in_err-exactly : goal.returns-in_err-exactly
returns-in_err-exactly c =
    exits_at (chain_id _ _ _ _ _) unread _ _ _ _ c.in_err-exactly.ensures c.from_residual.ensures.1

pub returns-in_err-byte : goal.returns-in_err-byte
returns-in_err-byte c =
    exits_at (chain_space _ _ _ _) (past_id _ _ _ _ _ c.in_ok-exactly.ensures) _ _ _ _ c.in_err-byte.ensures
    c.from_residual-in_err-byte.ensures.1

pub returns-in_err-winner : goal.returns-in_err-winner
returns-in_err-winner c =
    exits_at (chain_winner _ _ _ _) (past_space _ _ _ _ _ c.in_ok-exactly.ensures c.in_ok-byte.ensures) _ _ _ _
    c.in_err-winner.ensures c.from_residual-in_err-winner.ensures.1

pub returns-in_err-byte-2 : goal.returns-in_err-byte-2
returns-in_err-byte-2 c =
    exits_at (chain_second _ _ _ _ _) (past_winner _ _ _ _ _ c.in_ok-exactly.ensures c.in_ok-byte.ensures
    c.in_ok-winner.ensures) _ _ _ _ c.in_err-byte-2.ensures c.from_residual-in_err-byte-2.ensures.1

pub returns-in_err-choice : goal.returns-in_err-choice
returns-in_err-choice c =
    exits_at (chain_choice _ _ _ _ _) (past_second _ _ _ _ _ c.in_ok-exactly.ensures c.in_ok-byte.ensures
    c.in_ok-winner.ensures c.in_ok-byte-2.ensures) _ _ _ _ c.in_err-choice.ensures
    c.from_residual-in_err-choice.ensures.1

pub returns-in_err-counts_for : goal.returns-in_err-counts_for
returns-in_err-counts_for c =
    fails _ (entry c.args.compact c.args.known.now.odd.items c.args.known.now.even.items c.args.known.now.ids c.args.id)
    c.args.cursor.now _ _ _ (counts_fail _ _ _ _ _ c.in_ok-exactly.ensures c.in_ok-byte.ensures c.in_ok-winner.ensures
    c.in_ok-byte-2.ensures c.in_ok-choice.ensures c.lost_by-priorities.ensures _ c.in_err-counts_for.ensures)
    c.from_residual-in_err-counts_for.ensures.1

pub returns : goal.returns
returns c =
    entry_reads _ _ _ _ _ c.in_ok-exactly.ensures c.in_ok-byte.ensures c.in_ok-winner.ensures c.in_ok-byte-2.ensures
    c.in_ok-choice.ensures c.lost_by-priorities.ensures c.in_ok-counts_for.ensures
