use Rattle.std.proofs.Common.{◌≡◌, ℕ, ◌<◌, Some, slice_get}
use Rattle.ps_components.specs.ComponentLists.{IsIn}
use Rattle.ps_fairness.specs.Marks.{Leads}
use Rattle.ps_fairness.specs.declared.edge.Edge.{Edge}
use Rattle.ps_fairness.proofs.cycles.closed_walk.Given as goal

abbrev pub invariant-loop-edge : goal.invariant-loop-edge
invariant-loop-edge g l = record {
  inside : IsIn l.inner.components.now l.at l.inner.number;
  leads : Leads (g.G.Graph.graph l.inner.graph.now) l.walk.items l.start l.at;
  has : (i : ℕ) (e : Edge) → i < l.edge-index → slice_get l.edges i ≡ Some e →
      (j : ℕ) × (slice_get l.walk.items j ≡ Some e);
}
