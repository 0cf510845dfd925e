use Rattle.std.proofs.Common.{arith}
use Rattle.ps_simulate.proofs.EvaluationPlans.LanePlanLemmas.{rows_more}
use Rattle.ps_simulate.proofs.lane_plan.gates_of.Goals as goal

pub loop-row-preserved : goal.loop-row-preserved
loop-row-preserved c front in_order = grind (arith, rows_more)
