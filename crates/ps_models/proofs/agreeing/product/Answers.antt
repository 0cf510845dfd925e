use Rattle.ps_product.proofs.CircuitFunctions.GroupLemmas.{ok_map}
use Rattle.ps_models.proofs.agreeing.product.Goals as goal

pub returns : goal.returns
returns c = ok_map _ _ c.product.result c.product.ensures (λ graph made. made _ c.in_ok-tableau.ensures)
