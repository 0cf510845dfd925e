use Rattle.ps_text.proofs.BytesAndDigits.Bytes.Lawful.{chain_word}
use Rattle.ps_text.proofs.BytesAndDigits.Bytes.Lefts.{unread, past, exits_at, word_left, word_read}
use Rattle.ps_text.proofs.cursor.Cursor.word.Goals as goal

pub loop-byte-init : goal.loop-byte-init
loop-byte-init g c = unread

pub loop-byte-preserved : goal.loop-byte-preserved
loop-byte-preserved g c = past (chain_word _ _) (word_left c.args.word.now c.loop-byte.byte-index
    c.loop-byte-test.true c.loop-byte.invariant) c.in_ok-byte.ensures

pub returns-in_err-byte : goal.returns-in_err-byte
returns-in_err-byte g c = exits_at (chain_word _ _) (word_left c.args.word.now c.loop-byte.byte-index
    c.loop-byte-test.true c.loop-byte.invariant) (λ u. u) _ _ _ c.in_err-byte.ensures c.from_residual.ensures.1

pub returns : goal.returns
returns g c = word_read c.args.word.now c.loop-byte.byte-index c.loop-byte-test.false c.loop-byte.invariant
