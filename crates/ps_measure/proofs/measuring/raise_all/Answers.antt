use Rattle.std.proofs.Common.{ap}
use Rattle.ps_measure.specs.Inner.Remaining.{RemainingData}
use Rattle.ps_measure.proofs.CountRows.Rows.{ranked_empty}
use Rattle.ps_measure.proofs.measuring.raise_all.Goals as goal

pub returns-then-is_empty-clause-ranked : goal.returns-then-is_empty-clause-ranked
returns-then-is_empty-clause-ranked g c =
    let regions = ap (λ (r : RemainingData). r.region) c.remaining.view_is in
    ranked_empty (rw regions at (c.is_empty.ensures.0 c.if-is_empty.true)) c.requires.zeros
