use Rattle.ps_shrink.specs.Reductions.{IsSmallerBy}
use Rattle.ps_shrink.proofs.shrinking.smaller.Given as goal

abbrev pub invariant-loop : goal.invariant-loop
invariant-loop g l = IsSmallerBy (g.J.Judge.wins l.judge) l.fn.circuit l.best
