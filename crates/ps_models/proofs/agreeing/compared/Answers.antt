use Rattle.ps_product.proofs.CircuitFunctions.GroupLemmas.{ok_map}
use Rattle.ps_models.proofs.agreeing.compared.Goals as goal

pub returns-in-Some : goal.returns-in-Some
returns-in-Some c = λ file chain built. rw c.in-Some.is at (c.in_ok-lasso.ensures file chain built)

pub returns-in-None : goal.returns-in-None
returns-in-None c = ok_map _ _ c.rest_compared.result c.rest_compared.ensures (λ agreement told file chain built.
    told file chain built (rw c.in-None.is at (c.in_ok-lasso.ensures file chain built)))
