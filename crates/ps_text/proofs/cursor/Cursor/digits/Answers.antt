use Rattle.std.proofs.Common.{refl}
use Rattle.ps_text.specs.Bytes.{is_digit}
use Rattle.ps_text.proofs.BytesAndDigits.Bytes.Moves.{passes_in}
use Rattle.ps_text.proofs.cursor.Cursor.digits.Goals as goal

pub returns-clause-passes : goal.returns-clause-passes
returns-clause-passes c = rw c.self.view_is at (passes_in {p = is_digit} refl c.self.inside.text.now c.self.inside.at
    c.self.inside.unended c.split_at.ensures.back c.digits_of-count.ensures.length c.split_at-2.ensures.front
    c.split_at-2.ensures.front_len)
