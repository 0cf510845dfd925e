use Rattle.ps_simulate.proofs.EvaluationPlans.RunLemmas.{AreLanesPlain-circuit}
use Rattle.ps_simulate.proofs.laws.lanes_are_plain_runs.Goals as goal

pub returns : goal.returns
returns c = λ d is. AreLanesPlain-circuit is (c.circuit_has_one_values.ensures d is)
