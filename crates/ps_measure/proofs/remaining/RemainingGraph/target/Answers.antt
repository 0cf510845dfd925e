use Rattle.std.proofs.Common.{rules}
use Rattle.ps_measure.proofs.LinksOfEdges.RemainingEdges.{successor_within, below_places}
use Rattle.ps_measure.proofs.remaining.RemainingGraph.target.Goals as goal

pub keeps-requires-clause-to : goal.keeps-requires-clause-to
keeps-requires-clause-to g c = search (rules, successor_within, below_places)
