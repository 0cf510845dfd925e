use Rattle.std.proofs.Common.{◌≡◌, ℕ, ◌<◌, slice_get, Some}
use Rattle.ps_components.specs.declared.statuses.Status.TheVariants.{Unseen}
use Rattle.ps_components.specs.Searches.{IsIdle}
use Rattle.ps_components.proofs.components.components_of.Given as goal

abbrev pub invariant-loop-item : goal.invariant-loop-item
invariant-loop-item g l = record {
  idle : IsIdle (g.G.Graph.graph l.graph) l.search;
  seen : (i : ℕ) → i < l.item → ¬ (slice_get l.search.statuses i ≡ Some Unseen);
}
