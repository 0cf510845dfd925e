use Rattle.ps_tableau_product.proofs.FairProducts.HavingLassos.{has_fair_lasso}
use Rattle.ps_models.proofs.laws.satisfied_has_fair_lasso.Goals as goal

pub returns : goal.returns
returns c = has_fair_lasso
