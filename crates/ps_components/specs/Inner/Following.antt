-- What the methods of the search for components require before they follow a link or finish a component.
use Rattle.std.specs.Prelude.{◌≡◌, ℕ, ◌<◌, ◌≤◌, length, slice_get, Some}
use Rattle.ps_components.specs.Graphs.{Digraph, Link}
use Rattle.ps_components.specs.Searches.{IsSound, EndsAt, HasNext, IsReachedNext}
use Rattle.ps_components.specs.declared.statuses.Status.TheVariants.{Active}
use Rattle.ps_components.specs.declared.search.Pending.{Pending}
use Rattle.ps_components.specs.declared.search.Search.{Search}

-- the last pending link is `link`, and its target can be appended to the search path
pub record LeadsOn (g : Digraph) (link : Pending) (s : Search) : Type 0 where
  pub next : HasNext g link s
  pub reached : IsReachedNext g link.to s

-- the link starts in the last segment of the search path, and leads back to the vertex at index `place` of the path
pub record LeadsBack (g : Digraph) (link : Pending) (place : ℕ) (s : Search) : Type 0 where
  pub within : link.to < length s.statuses
  pub linked : (v : ℕ) × (slice_get s.active.items link.from ≡ Some v) × Link g v link.to
  pub last : (k b : ℕ) → slice_get s.bounds.items k ≡ Some b → b ≤ link.from
  pub marked : slice_get s.statuses link.to ≡ Some (Active place)
  pub sound : IsSound g s

-- the last segment of the search path begins at index `bound`, and all links that start in it were followed
pub record IsFollowed (g : Digraph) (bound : ℕ) (s : Search) : Type 0 where
  pub ends : EndsAt g bound s
  pub done : (i : ℕ) (e : Pending) → slice_get s.pending.items i ≡ Some e → e.from < bound
