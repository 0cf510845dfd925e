use Rattle.std.proofs.Common.{rules, arith, ◌≡◌, refl, position, Some}
use Rattle.ps_circuit.specs.Literals.{variable}
use Rattle.ps_ids.proofs.IdPlaces.{position_here}
use Rattle.ps_simulate.specs.Plans.{place_of_variable}
use Rattle.ps_simulate.proofs.EvaluationPlans.LanePlanLemmas.{few_variables}
use Rattle.ps_simulate.proofs.EvaluationPlans.PlacesLemmas.{place_known, variables_once}
use Rattle.ps_simulate.proofs.places.Places.wire.Goals as goal
use Rattle.ps_simulate.proofs.places.Places.wire.Goals.{After-place}

-- the search finds the index of the literal's variable
found : (c : After-place) → c.place.result ≡ Some (place_of_variable c.args.self.now (variable c.args.literal))
found c = search (rules, place_known, position, position_here, variables_once)

pub unwrap-place-requires : goal.unwrap-place-requires
unwrap-place-requires c = rw (found (goal.at.unwrap-place-requires c).After-place) refl

pub returns : goal.returns
returns c = grind (arith, found)

-- the number of a circuit's variables fits into 4 bytes
pub overflow_cast-result : goal.overflow_cast-result
overflow_cast-result c = grind (arith, few_variables c.self.invariant.1, c.place.ensures.within)
