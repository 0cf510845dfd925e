use Rattle.ps_machine.proofs.Lassos.LassosAreWon.{each_lasso_won}
use Rattle.ps_machine.proofs.laws.lassos_won.Goals as goal

pub returns : goal.returns
returns c _ _ _ order _ _ _ _ = each_lasso_won order
