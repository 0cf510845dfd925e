use Rattle.std.proofs.Common.{not, arith}
use Rattle.ps_text.proofs.BytesAndDigits.Bytes.Moves.{new_small}
use Rattle.ps_text.proofs.cursor.Cursor.of_lines.Goals as goal

pub returns-clause-small : goal.returns-clause-small
returns-clause-small c = new_small c.args.text.now (not c.is_ended.result) (omega arith)
