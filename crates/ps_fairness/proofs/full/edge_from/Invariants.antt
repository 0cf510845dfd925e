use Rattle.std.proofs.Common.{ℕ, ◌<◌}
use Rattle.ps_fairness.specs.Inner.Inside.{IsWanted}
use Rattle.ps_fairness.proofs.full.edge_from.Given as goal

abbrev pub invariant-loop-slot : goal.invariant-loop-slot
invariant-loop-slot g l = (slot : ℕ) → slot < l.slot → ¬ IsWanted (g.G.Graph.graph l.graph) (g.G.Marked.marks l.graph)
    l.components l.number l.mark (record { vertex = l.vertex; slot = slot })
