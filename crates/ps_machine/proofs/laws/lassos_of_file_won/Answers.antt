use Rattle.ps_machine.proofs.Lassos.FileLassos.{file_lasso_won}
use Rattle.ps_machine.proofs.laws.lassos_of_file_won.Goals as goal

pub returns : goal.returns
returns c order file _ is _ _ = file_lasso_won order file is
