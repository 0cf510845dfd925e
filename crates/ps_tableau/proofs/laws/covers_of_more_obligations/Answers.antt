use Rattle.ps_tableau.proofs.CoversOfSets.Ways.{of_more, of_none}
use Rattle.ps_tableau.proofs.laws.covers_of_more_obligations.Goals as goal

pub returns-clause-none : goal.returns-clause-none
returns-clause-none c = of_none

pub returns-clause-more : goal.returns-clause-more
returns-clause-more c some others first second products = of_more some others first second products
