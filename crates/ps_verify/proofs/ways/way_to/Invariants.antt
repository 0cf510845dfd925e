use Rattle.ps_verify.specs.Inner.Ways.{IsWayBack}
use Rattle.ps_verify.proofs.ways.way_to.Given as goal

abbrev pub invariant-loop-first : goal.invariant-loop-first
invariant-loop-first l = IsWayBack l.firsts l.way.items l.vertex l.first

abbrev pub decreases-loop-first : goal.decreases-loop-first
decreases-loop-first l = l.first
