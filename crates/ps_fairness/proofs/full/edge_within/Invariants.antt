use Rattle.std.proofs.Common.{◌≡◌, ℕ, ◌<◌, ◌≤◌, Some, slice_get}
use Rattle.ps_fairness.specs.Inner.Inside.{IsWanted}
use Rattle.ps_fairness.specs.declared.edge.Edge.{Edge}
use Rattle.ps_fairness.proofs.full.edge_within.Given as goal

abbrev pub invariant-loop-place : goal.invariant-loop-place
invariant-loop-place g l = (i v : ℕ) → i < l.place → l.number ≤ i → slice_get l.components.order i ≡ Some v →
    (e : Edge) → e.vertex ≡ v →
    ¬ IsWanted (g.G.Graph.graph l.graph) (g.G.Marked.marks l.graph) l.components l.number l.mark e
