use Rattle.ps_attractor.proofs.GameEdges.{links_within}
use Rattle.ps_attractor.proofs.edges.EdgesGraph.count.Goals as goal

pub returns-clause-within : goal.returns-clause-within
returns-clause-within g c = links_within (g.A.Arena.game c.args.self.now.arena.now) c.count.ensures.well_formed
