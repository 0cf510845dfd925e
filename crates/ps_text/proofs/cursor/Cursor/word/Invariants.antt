use Rattle.std.proofs.Common.{drop}
use Rattle.ps_text.specs.Bytes.{word}
use Rattle.ps_text.proofs.BytesAndDigits.Bytes.Lefts.{Left}
use Rattle.ps_text.proofs.cursor.Cursor.word.Given as goal

abbrev pub invariant-loop-byte : goal.invariant-loop-byte
invariant-loop-byte g l =
    Left g.C.Cause.number l.cause (word l.word) l.initial.self (word (drop l.byte-index l.word)) l.self
