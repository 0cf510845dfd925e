use Rattle.std.proofs.Common.{arith}
use Rattle.ps_pgsolver.proofs.ReadGames.GameExits.{exit}
use Rattle.ps_pgsolver.proofs.TokensOfGames.SingleSigns.{reads_id}
use Rattle.ps_pgsolver.proofs.reader.new_id.Goals as goal

pub returns-in_err-id-clause-part : goal.returns-in_err-id-clause-part
returns-in_err-id-clause-part c = grind (arith, reads_id, exit)

pub returns-clause-part : goal.returns-clause-part
returns-clause-part c = grind (arith, reads_id)
