use Rattle.ps_basis.proofs.ListedOrder.{listed_in_order}
use Rattle.ps_basis.proofs.laws.listing_is_in_order.Goals as goal

pub returns : goal.returns
returns c = listed_in_order
