use Rattle.ps_tableau.proofs.Rounds.{fair_run_has_round_lem}
use Rattle.ps_tableau.proofs.laws.fair_run_has_round.Goals as goal

pub returns : goal.returns
returns c untils run values count fair below = fair_run_has_round_lem untils run values count fair below
