use Rattle.ps_formula.proofs.Along.{keep_fold, keep_unfold, reach_fold, reach_unfold}
use Rattle.ps_formula.proofs.laws.expansions.Goals as goal

pub returns-clause-until : goal.returns-clause-until
returns-clause-until c f g w i = (reach_unfold i, reach_fold i)

pub returns-clause-release : goal.returns-clause-release
returns-clause-release c f g w i word = (keep_unfold i (word.each f i), keep_fold i)
