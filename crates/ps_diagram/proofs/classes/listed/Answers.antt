use Rattle.std.proofs.Common.{refl}
use Rattle.ps_diagram.proofs.ClassesOfLetters.Numbering.{of_push}
use Rattle.ps_diagram.proofs.classes.listed.Goals as goal

pub loop-pair-preserved : goal.loop-pair-preserved
loop-pair-preserved c = rw c.in_ok-push.ensures.items (of_push c.loop-pair.invariant refl refl)
