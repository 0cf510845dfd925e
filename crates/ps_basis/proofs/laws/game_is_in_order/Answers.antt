use Rattle.ps_basis.proofs.GameOrder.{game_in_order}
use Rattle.ps_basis.proofs.laws.game_is_in_order.Goals as goal

pub returns : goal.returns
returns c = game_in_order
