use Rattle.std.proofs.Common.{◌∙◌, ap}
use Rattle.ps_text.specs.Answers.{Stream}
use Rattle.ps_text.specs.Bytes.{Seen}
use Rattle.ps_text.specs.Readers.{tail}
use Rattle.ps_text.proofs.BytesAndDigits.Bytes.Moves.{past_byte}
use Rattle.ps_text.proofs.cursor.Cursor.step.Goals as goal

pub returns-then-self-clause-next : goal.returns-then-self-clause-next
returns-then-self-clause-next c =
    past_byte c.self.inside.text.now c.self.inside.at c.self.inside.unended c.if-self.true
    ∙ ap (λ (stream : Stream Seen). tail stream) c.self.view_is
