use Rattle.std.proofs.Common.{arith}
use Rattle.ps_pgsolver.proofs.ReadGames.GameExits.{exit}
use Rattle.ps_pgsolver.proofs.TokensOfGames.SingleSigns.{reads_owner}
use Rattle.ps_pgsolver.proofs.reader.owner.Goals as goal

pub returns-in_err-owner-clause-part : goal.returns-in_err-owner-clause-part
returns-in_err-owner-clause-part c = grind (arith, reads_owner, exit)

pub returns-clause-part : goal.returns-clause-part
returns-clause-part c = grind (arith, reads_owner)
