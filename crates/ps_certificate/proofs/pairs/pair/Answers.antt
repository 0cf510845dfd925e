use Rattle.std.proofs.Common.{refl}
use Rattle.std.specs.Prelude.{slice_index}
use Rattle.ps_text.proofs.BytesAndDigits.Bytes.Lefts.{unread, exits_at, exits_last, reads_last}
use Rattle.ps_certificate.specs.Pairs.{with_pair}
use Rattle.ps_certificate.proofs.ReadCertificates.Loops.{fails}
use Rattle.ps_certificate.proofs.ReadCertificates.TextLaws.{chain_pair, chain_colon}
use Rattle.ps_certificate.proofs.ReadCertificates.PairSteps.{past_priority, past_colon, pair_priority}
use Rattle.ps_certificate.proofs.pairs.pair.Goals as goal

pub returns-in_err-byte-clause-read : goal.returns-in_err-byte-clause-read
returns-in_err-byte-clause-read c =
    λ pairs same. exits_at (chain_pair _ pairs) unread _ _ _ _ c.in_err-byte.ensures c.from_residual.ensures.1

pub returns-in_err-place-clause-read : goal.returns-in_err-place-clause-read
returns-in_err-place-clause-read c =
    λ pairs same. fails _ _ _ _ _ _ (pair_priority _ pairs c.in_ok-byte.ensures _ c.priority.new.cursor
    (c.in_err-place.ensures.read pairs same)) c.from_residual-in_err-place.ensures.1

pub returns-in_err-byte-2-clause-read : goal.returns-in_err-byte-2-clause-read
returns-in_err-byte-2-clause-read c =
    λ pairs same. exits_at (chain_colon pairs _) (past_priority _ pairs c.in_ok-byte.ensures
    (c.in_ok-place.ensures.read pairs same)) _ _ _ _ c.in_err-byte-2.ensures c.from_residual-in_err-byte-2.ensures.1

pub returns-in_err-count-clause-read : goal.returns-in_err-count-clause-read
returns-in_err-count-clause-read c =
    λ pairs same. exits_last (λ m. with_pair pairs (slice_index c.args.priorities.list.now c.in_ok-place.place) m)
    (past_colon _ pairs c.in_ok-byte.ensures (c.in_ok-place.ensures.read pairs same) c.in_ok-byte-2.ensures) _ _ _ _
    c.in_err-count.ensures c.from_residual-in_err-count.ensures.1

pub returns-clause-read : goal.returns-clause-read
returns-clause-read c =
    λ pairs same. reads_last (λ m. with_pair pairs (slice_index c.args.priorities.list.now c.in_ok-place.place) m)
    (past_colon _ pairs c.in_ok-byte.ensures (c.in_ok-place.ensures.read pairs same) c.in_ok-byte-2.ensures)
    c.in_ok-count.ensures refl
