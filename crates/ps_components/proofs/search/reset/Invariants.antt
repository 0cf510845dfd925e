use Rattle.ps_components.proofs.Renewing.{AreListedFrom}
use Rattle.ps_components.proofs.search.reset.Given as goal

abbrev pub invariant-loop-item : goal.invariant-loop-item
invariant-loop-item l = AreListedFrom l.statuses l.items l.item-index
