use Rattle.std.proofs.Common.{arith}
use Rattle.ps_machine.proofs.Machines.Diagrams.FollowedEdges.{some_leads}
use Rattle.ps_machine.proofs.drawing.Plan.successor.Goals as goal

pub unreachable-requires : goal.unreachable-requires
unreachable-requires c =
    some_leads c.loop-other.other c.requires.leads (omega (arith, c.loop-other-test.false, c.degree-other-end.ensures))
    c.loop-other.invariant
