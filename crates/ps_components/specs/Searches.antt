-- The search for strongly connected components, and the changes that each of its methods makes to its state.
-- - `IsSound`: the lists of the search satisfy its invariant.
-- - `EndsAt` and `HasNext`: the search is sound, its last segment begins at the given index, and the given link is
--   followed next.
-- - `IsReachedNext`: the given vertex can be appended to the search path.
-- - `IsIdle` and `IsFresh`: the search is sound and its search path is empty; for `IsFresh`, no vertex was seen
--   either.
-- - `Visits`, `Runs`, `Advances`, `Enters`, `Merges`, `Takes`: what the methods of the search do to its state.
use Rattle.std.specs.Prelude.{◌≡◌, ℕ, ◌-◌, ◌<◌, ◌≤◌, List, [], ◌∷◌, ◌++◌, length, slice_get, slice_set, Some, All}
use Rattle.ps_components.specs.Graphs.{Digraph, Way, Link}
use Rattle.ps_components.specs.Searching.{IsSoundSearch, IsSoundBut, IsSettled, KeepsStatuses, ChangesReached, HasMet}
use Rattle.ps_components.specs.Searching.{turns}
use Rattle.ps_components.specs.declared.statuses.Status.TheVariants.{Unseen, Active}
use Rattle.ps_components.specs.declared.search.Pending.{Pending}
use Rattle.ps_components.specs.declared.search.Search.{Search}

abbrev pub IsSound : Digraph → Search → Type 0
IsSound g s = IsSoundSearch g s.statuses s.active.items s.bounds.items s.pending.items s.order.items

-- the search would satisfy its invariant if some further links, all with the target `item`, were pending
abbrev pub IsSoundButFor : Digraph → ℕ → Search → Type 0
IsSoundButFor g item s = IsSoundBut g item s.statuses s.active.items s.bounds.items s.pending.items s.order.items

-- a bound on the number of steps that the search still needs
abbrev pub turns_left : Digraph → Search → ℕ
turns_left g s = turns g s.statuses s.bounds.items s.pending.items

-- the last segment of the search path begins at index `bound`
pub record EndsAt (g : Digraph) (bound : ℕ) (s : Search) : Type 0 where
  pub sound : IsSound g s
  pub last : slice_get s.bounds.items (length s.bounds.items - 1) ≡ Some bound

-- the last pending link is `pending`
pub record HasNext (g : Digraph) (pending : Pending) (s : Search) : Type 0 where
  pub sound : IsSound g s
  pub last : slice_get s.pending.items (length s.pending.items - 1) ≡ Some pending

-- the vertex `item` was not seen yet, and all vertices on the search path can reach it
pub record IsReachedNext (g : Digraph) (item : ℕ) (s : Search) : Type 0 where
  pub within : item < g.count
  pub unseen : slice_get s.statuses item ≡ Some Unseen
  pub lead : (p v : ℕ) → slice_get s.active.items p ≡ Some v → Way (Link g) v item

-- the search path is empty, so nothing is left to do
pub record IsIdle (g : Digraph) (s : Search) : Type 0 where
  pub sound : IsSound g s
  pub ended : length s.bounds.items ≡ 0

-- the search path is empty, and no vertex was seen
pub record IsFresh (g : Digraph) (s : Search) : Type 0 where
  pub idle : IsIdle g s
  pub unseen : All (λ m. m ≡ Unseen) s.statuses

-- the visited vertices are exactly the roots (the vertices where the search starts) and the vertices reachable from the
-- roots
pub record HasVisited (g : Digraph) (roots : List ℕ) (s : Search) : Type 0 where
  pub idle : IsIdle g s
  pub met : HasMet g roots s.statuses

-- the vertex `item` was visited, and only the statuses of vertices reachable from `item` changed
pub record Visits (g : Digraph) (item : ℕ) (old new : Search) : Type 0 where
  pub idle : IsIdle g new
  pub kept : KeepsStatuses old.statuses new.statuses
  pub seen : ¬ (slice_get new.statuses item ≡ Some Unseen)
  pub reached : ChangesReached g (item ∷ []) old.statuses new.statuses

-- the search path is empty again, and only the statuses of vertices reachable from the old search path changed
pub record Runs (g : Digraph) (old new : Search) : Type 0 where
  pub idle : IsIdle g new
  pub kept : KeepsStatuses old.statuses new.statuses
  pub reached : ChangesReached g old.active.items old.statuses new.statuses

-- one step
pub record Advances (g : Digraph) (old new : Search) : Type 0 where
  pub sound : IsSound g new
  pub fewer : turns_left g new < turns_left g old
  pub kept : KeepsStatuses old.statuses new.statuses
  pub reached : ChangesReached g old.active.items old.statuses new.statuses

-- the vertex `item` was appended to the search path
pub record Enters (g : Digraph) (item : ℕ) (old new : Search) : Type 0 where
  pub sound : IsSound g new
  pub fewer : turns_left g new < turns_left g old
  pub kept : KeepsStatuses old.statuses new.statuses
  pub entered : new.statuses ≡ slice_set old.statuses item (Active (length old.active.items))
  pub path : new.active.items ≡ old.active.items ++ item ∷ []

-- segments of the search path were merged, so that the target of the pending link is finished, or is in the segment of
-- the link's start or in a later segment
pub record Merges (g : Digraph) (link : Pending) (old new : Search) : Type 0 where
  pub sound : IsSound g new
  pub settled : IsSettled new.statuses new.bounds.items link.from link.to
  pub statuses : new.statuses ≡ old.statuses
  pub shorter : length new.bounds.items ≤ length old.bounds.items
  pub pending : new.pending.items ≡ old.pending.items

-- the last link of the list of pending links was removed
pub record Takes (g : Digraph) (old new : Search) : Type 0 where
  pub sound : IsSound g new
  pub fewer : turns_left g new < turns_left g old
  pub statuses : new.statuses ≡ old.statuses
