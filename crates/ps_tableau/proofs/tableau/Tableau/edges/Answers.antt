use Rattle.ps_tableau.proofs.CoversOfSets.WayLemmas.{right_kept}
use Rattle.ps_tableau.proofs.tableau.Tableau.edges.Goals as goal

pub invariant_of-self : goal.invariant_of-self
invariant_of-self c = (right_kept c.edges_from.ensures.grows c.self.invariant.0, c.edges_from.ensures.known)
