use Rattle.ps_measure.proofs.LinksOfEdges.RemainingEdges.{NoneLow}
use Rattle.ps_measure.proofs.layer.Layer.leads_down.Given as goal

abbrev pub invariant-loop-place : goal.invariant-loop-place
invariant-loop-place g l =
    NoneLow (g.G.Graph.graph l.self-inside.graph.now) l.self-inside.low.now l.vertex l.place
