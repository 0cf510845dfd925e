use Rattle.std.proofs.Common.{rules}
use Rattle.ps_attractor.proofs.GameEdges.{successor_within}
use Rattle.ps_attractor.proofs.edges.EdgesGraph.target.Goals as goal

pub returns-clause-within : goal.returns-clause-within
returns-clause-within g c = search (rules, successor_within)
