use Rattle.std.proofs.Common.{arith}
use Rattle.ps_machine.proofs.Machines.Extracted.{plan_is}
use Rattle.ps_machine.proofs.extracting.machine_of_certificate.Goals as goal

pub machine_by-requires-clause-plan : goal.machine_by-requires-clause-plan
machine_by-requires-clause-plan c =
    let kept = c.in_ok-memories.ensures in
    plan_is c.requires.game c.requires.fits c.requires.valid (grind arith) c.game.ensures.game kept.1
    c.deref.ensures.value kept.2 c.game-2.ensures.game c.deref-2.ensures.value
