use Rattle.std.proofs.Common.{rules}
use Rattle.ps_simulate.proofs.EvaluationPlans.LaneStepLemmas.{AreLaneTables-zeros}
use Rattle.ps_simulate.proofs.lanes.LaneSimulator.new.Goals as goal

pub invariant_of-result : goal.invariant_of-result
invariant_of-result c =
    let found = c.in_ok-plan.ensures in
    AreLaneTables-zeros found.2.is_plan.rows_are.is_circuit found.2 c.in_ok-latches.latches.items
    (c.in_ok-values.ensures.items_if_clones_equal (λ y h. search rules)) c.in_ok-latches.ensures
