use Rattle.ps_tableau.proofs.CoversOfSets.Ways.{pruned_covers}
use Rattle.ps_tableau.proofs.laws.pruned_covers_are_covers.Goals as goal

pub returns : goal.returns
returns c obligations old new = pruned_covers obligations old new
