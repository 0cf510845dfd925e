use Rattle.std.proofs.Common.{arith}
use Rattle.ps_simulate.proofs.EvaluationPlans.PlacesLemmas.{variables_once}
use Rattle.ps_simulate.proofs.places.Places.new.Goals as goal

pub ids_of-requires : goal.ids_of-requires
ids_of-requires c = grind (arith, variables_once)

pub invariant_of-result : goal.invariant_of-result
invariant_of-result c = grind arith
