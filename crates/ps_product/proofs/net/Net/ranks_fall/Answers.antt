use Rattle.ps_product.proofs.CircuitFunctions.UnknownPlaces.{ranks_fall}
use Rattle.ps_product.proofs.net.Net.ranks_fall.Goals as goal

pub returns : goal.returns
returns c = ranks_fall c.requires
