use Rattle.std.proofs.Common.{arith}
use Rattle.ps_components.proofs.Codes.{map-replicate}
use Rattle.ps_components.proofs.statuses.Statuses.unseen.Goals as goal

pub returns : goal.returns
returns c = grind (arith, map-replicate)
