use Rattle.ps_tableau.proofs.Complete.{satisfied_has_fair_run_lem}
use Rattle.ps_tableau.proofs.laws.satisfied_has_fair_run.Goals as goal

pub returns : goal.returns
returns c t w q tableau decided within satisfied = satisfied_has_fair_run_lem t w q tableau decided within satisfied
