use Rattle.std.proofs.Common.{arith}
use Rattle.ps_fairness.proofs.cycles.edge_to.Goals as goal

pub unreachable-requires : goal.unreachable-requires
unreachable-requires g c = c.loop-slot.invariant c.requires.place
    (omega (arith, c.requires.at, c.degree-slot-end.ensures, c.loop-slot-test.false)) c.requires.target
