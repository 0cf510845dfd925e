use Rattle.std.proofs.Common.{◌∙◌, ap, drop}
use Rattle.ps_text.specs.Cursors.{stream_offset}
use Rattle.ps_text.proofs.BytesAndDigits.Bytes.Moves.{place_is}
use Rattle.ps_text.proofs.cursor.Cursor.offset.Goals as goal

pub returns : goal.returns
returns c = place_is (drop c.self.inside.at c.self.inside.text.now) c.self.inside.unended
    ∙ ap stream_offset c.self.view_is
