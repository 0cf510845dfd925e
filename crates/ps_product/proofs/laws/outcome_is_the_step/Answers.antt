use Rattle.ps_product.proofs.CircuitFunctions.StepsOf.{step_one, step_there}
use Rattle.ps_product.proofs.laws.outcome_is_the_step.Goals as goal

pub returns-clause-there : goal.returns-clause-there
returns-clause-there c = λ circuit propositions latches t outputs nexts letter is.
    step_there circuit propositions latches t outputs nexts letter (c.circuit_has_one_values.ensures circuit is)

pub returns-clause-one : goal.returns-clause-one
returns-clause-one c = step_one
