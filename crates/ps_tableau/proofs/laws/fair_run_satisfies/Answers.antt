use Rattle.ps_tableau.proofs.Sound.{fair_run_satisfies_lem}
use Rattle.ps_tableau.proofs.laws.fair_run_satisfies.Goals as goal

pub returns : goal.returns
returns c t w states run tableau fair = fair_run_satisfies_lem t w states run tableau fair
