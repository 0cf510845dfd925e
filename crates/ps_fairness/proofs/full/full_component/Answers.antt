use Rattle.std.proofs.Common.{below_more}
use Rattle.ps_fairness.proofs.full.full_component.Goals as goal

pub loop-number-preserved : goal.loop-number-preserved
loop-number-preserved g c =
    below_more _ _ c.loop-number.invariant (rw c.in_default.is at c.in_ok-edges.ensures)
