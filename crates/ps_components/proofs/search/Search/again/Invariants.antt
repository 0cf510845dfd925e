use Rattle.std.proofs.Common.{◌≡◌, ℕ, ◌<◌, slice_get, Some}
use Rattle.ps_components.specs.declared.statuses.Status.TheVariants.{Unseen, Closed}
use Rattle.ps_components.specs.Graphs.{IsReached}
use Rattle.ps_components.specs.Searches.{IsIdle}
use Rattle.ps_components.proofs.search.Search.again.Given as goal

abbrev pub invariant-loop-root : goal.invariant-loop-root
invariant-loop-root g l = record {
  idle : IsIdle (g.G.Graph.graph l.graph) l.self;
  seen : (i v : ℕ) → i < l.root-index → slice_get l.roots i ≡ Some v →
      ¬ (slice_get l.self.statuses v ≡ Some Unseen);
  reached : (v k : ℕ) → slice_get l.self.statuses v ≡ Some (Closed k) →
      IsReached (g.G.Graph.graph l.graph) l.roots v;
}
