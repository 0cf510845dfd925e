use Rattle.ps_measure.proofs.LinksOfEdges.RemainingEdges.{low_link}
use Rattle.ps_measure.proofs.low.LowGraph.count.Goals as goal

pub returns-clause-within : goal.returns-clause-within
returns-clause-within g c w v link =
    (rw c.self.view_is at c.self.invariant).within w v (low_link c.args.self.now link).0
