use Rattle.std.proofs.Common.{arith}
use Rattle.ps_simulate.proofs.EvaluationPlans.LaneLemmas.{latch_is, length-lane}
use Rattle.ps_simulate.proofs.lanes.LaneSimulator.latch.Goals as goal

pub returns : goal.returns
returns c = grind (arith, length-lane, latch_is)

pub index-requires : goal.index-requires
index-requires c =
    let many = (c.self.invariant.tables 0 (omega arith)).latches_each in
    grind (arith, length-lane)
