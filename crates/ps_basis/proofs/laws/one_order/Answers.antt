use Rattle.ps_basis.proofs.OneOrder.{numbered_alike}
use Rattle.ps_basis.proofs.laws.one_order.Goals as goal

pub returns : goal.returns
returns c = numbered_alike
