use Rattle.ps_text.proofs.BytesAndDigits.Bytes.Moves.{passes_in}
use Rattle.ps_text.proofs.cursor.Cursor.run.Goals as goal

pub returns : goal.returns
returns c = rw c.self.view_is at (passes_in c.requires c.self.inside.text.now c.self.inside.at c.self.inside.unended
    c.split_at.ensures.back c.run_length-count.ensures.length c.split_at-2.ensures.front c.split_at-2.ensures.front_len)
