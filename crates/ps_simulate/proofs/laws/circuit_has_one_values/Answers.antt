use Rattle.ps_simulate.proofs.EvaluationPlans.GateOrders.{gates_in_order}
use Rattle.ps_simulate.proofs.UniqueVerdicts.OneLemmas.{HasOneValues-circuit}
use Rattle.ps_simulate.proofs.laws.circuit_has_one_values.Goals as goal

pub returns : goal.returns
returns c = λ d is. let order = gates_in_order is in HasOneValues-circuit is order.1
