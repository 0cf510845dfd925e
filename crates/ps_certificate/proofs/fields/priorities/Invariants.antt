use Rattle.std.proofs.Common.{length}
use Rattle.ps_text.specs.Parts.{many}
use Rattle.ps_text.specs.Readers.{Carries}
use Rattle.ps_certificate.specs.Texts.{causes, priority}
use Rattle.ps_certificate.proofs.fields.priorities.Given as goal

abbrev pub invariant-more : goal.invariant-more
invariant-more l = Carries causes (many priority l.priorities) l.initial.cursor (many priority l.left)
    l.cursor

abbrev pub decreases-more : goal.decreases-more
decreases-more l = length l.cursor.pieces
