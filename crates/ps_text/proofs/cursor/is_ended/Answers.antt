use Rattle.std.proofs.Common.{arith}
use Rattle.ps_text.proofs.BytesAndDigits.Bytes.Moves.{last_ends, is_empty_false}
use Rattle.ps_text.proofs.cursor.is_ended.Goals as goal

pub returns-then-not-is_empty : goal.returns-then-not-is_empty
returns-then-not-is_empty c = grind (arith, last_ends, is_empty_false)
