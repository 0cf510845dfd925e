-- The invariants of the search for strongly connected components.
use Rattle.std.specs.Prelude.{◌≡◌, ℕ, ◌+◌, ◌<◌, ◌≤◌, ◌⊎◌, List, [], ◌∷◌, ◌++◌, length, slice_get, slice_set, Option}
use Rattle.std.specs.Prelude.{Some, None, zero, suc}
use Rattle.ps_components.specs.Graphs.{Digraph, Link, LinksStayWithin, SameOrWay, IsReached}
use Rattle.ps_components.specs.declared.statuses.Status.{Status}
use Rattle.ps_components.specs.declared.statuses.Status.TheVariants.{Unseen, Active, Closed}
use Rattle.ps_components.specs.declared.search.Pending.{Pending}

-- index q of the search path is in the segment of index p, or in a later segment: each segment that begins at p or
-- before also begins at q or before
abbrev pub NoLater : List ℕ → ℕ → ℕ → Type 0
NoLater bounds p q = (k b : ℕ) → slice_get bounds k ≡ Some b → b ≤ p → b ≤ q

-- the target w of a link from index p of the search path is finished, or is on the search path in the segment of index
-- p or in a later segment
pub data IsSettled (statuses : List Status) (bounds : List ℕ) (p w : ℕ) : Type 0 where
  closed : (k : ℕ) → slice_get statuses w ≡ Some (Closed k) → IsSettled statuses bounds p w
  active : (q : ℕ) → slice_get statuses w ≡ Some (Active q) → NoLater bounds p q → IsSettled statuses bounds p w

-- the link from index p of the search path to w is in the list of pending links
pub record IsPending (pending : List Pending) (p w : ℕ) : Type 0 where
  pub at : ℕ
  pub step : Pending
  pub is : slice_get pending at ≡ Some step
  pub from_is : step.from ≡ p
  pub to_is : step.to ≡ w

-- the search path consists of segments, which begin at the indices in `bounds`. The vertices of a segment can reach one
-- another and the vertices of later segments. The finished vertices are in the list `order`, and their links lead to
-- vertices of earlier components or of the same component
pub record IsSoundSearch (g : Digraph) (statuses : List Status) (active bounds : List ℕ) (pending : List Pending)
    (order : List ℕ) : Type 0 where
  pub within : LinksStayWithin g
  pub marked : length statuses ≡ g.count
  pub active_marked : (p v : ℕ) → slice_get active p ≡ Some v → slice_get statuses v ≡ Some (Active p)
  pub marked_active : (p v : ℕ) → slice_get statuses v ≡ Some (Active p) → slice_get active p ≡ Some v
  pub bounds_rise : (i j b c : ℕ) → slice_get bounds i ≡ Some b → slice_get bounds j ≡ Some c → i < j → b < c
  pub bounds_within : (i b : ℕ) → slice_get bounds i ≡ Some b → b < length active
  pub bounds_start : 0 < length active → slice_get bounds 0 ≡ Some 0
  pub pending_links : (i : ℕ) (e : Pending) → slice_get pending i ≡ Some e →
      (v : ℕ) × (slice_get active e.from ≡ Some v) × Link g v e.to
  pub pending_rise : (i j : ℕ) (e f : Pending) → slice_get pending i ≡ Some e → slice_get pending j ≡ Some f → i < j →
      e.from ≤ f.from
  pub together : (p q v w : ℕ) → slice_get active p ≡ Some v → slice_get active q ≡ Some w → NoLater bounds p q →
      SameOrWay g v w
  pub looked_at : (p v w : ℕ) → slice_get active p ≡ Some v → Link g v w →
      IsPending pending p w ⊎ IsSettled statuses bounds p w
  pub closed_links : (v k w : ℕ) → slice_get statuses v ≡ Some (Closed k) → Link g v w →
      (m : ℕ) × (slice_get statuses w ≡ Some (Closed m)) × (m ≤ k)
  pub same : (v w k : ℕ) → slice_get statuses v ≡ Some (Closed k) → slice_get statuses w ≡ Some (Closed k) →
      SameOrWay g v w
  pub numbered : (v k : ℕ) → slice_get statuses v ≡ Some (Closed k) → k < length order
  pub begins : (v k : ℕ) → slice_get statuses v ≡ Some (Closed k) →
      (u : ℕ) × (slice_get order k ≡ Some u) × (slice_get statuses u ≡ Some (Closed k))
  pub starts : (i v k : ℕ) → slice_get order i ≡ Some v → slice_get statuses v ≡ Some (Closed k) → k ≤ i
  pub listed : (v k : ℕ) → slice_get statuses v ≡ Some (Closed k) → (i : ℕ) × (slice_get order i ≡ Some v)
  pub ordered : (i v : ℕ) → slice_get order i ≡ Some v → (k : ℕ) × (slice_get statuses v ≡ Some (Closed k))
  pub rises : (i j v w k m : ℕ) → i < j → slice_get order i ≡ Some v → slice_get order j ≡ Some w →
      slice_get statuses v ≡ Some (Closed k) → slice_get statuses w ≡ Some (Closed m) → k ≤ m
  pub once : (i j v : ℕ) → slice_get order i ≡ Some v → slice_get order j ≡ Some v → i ≡ j

-- the lists of the search would satisfy its invariant if some further links, all with the target `item`, were appended
-- to the pending links
pub record IsSoundBut (g : Digraph) (item : ℕ) (statuses : List Status) (active bounds : List ℕ)
    (pending : List Pending)
    (order : List ℕ) : Type 0 where
  pub skipped : List Pending
  pub lead : (i : ℕ) (e : Pending) → slice_get skipped i ≡ Some e → e.to ≡ item
  pub sound : IsSoundSearch g statuses active bounds (pending ++ skipped) order

-- each vertex that is not `Unseen` is in the list `order`, and each entry of `order` is a vertex
pub record AreListed (statuses : List Status) (order : List ℕ) : Type 0 where
  pub within : (i v : ℕ) → slice_get order i ≡ Some v → v < length statuses
  pub listed : (v : ℕ) (m : Status) → slice_get statuses v ≡ Some m →
      (m ≡ Unseen) ⊎ ((i : ℕ) × (slice_get order i ≡ Some v))

-- each root was seen, and each finished vertex is a root or is reachable from a root
pub record HasMet (g : Digraph) (roots : List ℕ) (statuses : List Status) : Type 0 where
  pub seen : (i v : ℕ) → slice_get roots i ≡ Some v → ¬ (slice_get statuses v ≡ Some Unseen)
  pub reached : (v k : ℕ) → slice_get statuses v ≡ Some (Closed k) → IsReached g roots v

-- only the statuses of vertices that are reachable from the list `from` have changed
abbrev pub ChangesReached : Digraph → List ℕ → List Status → List Status → Type 0
ChangesReached g from old new = (v : ℕ) → (slice_get new v ≡ slice_get old v) ⊎ IsReached g from v

-- `fewer` is the list `bounds` without the entries greater than `place`
pub record IsCutAt (bounds : List ℕ) (place : ℕ) (fewer : List ℕ) : Type 0 where
  pub part : (k b : ℕ) → slice_get fewer k ≡ Some b → slice_get bounds k ≡ Some b
  pub kept : (k b : ℕ) → slice_get bounds k ≡ Some b → b ≤ place → slice_get fewer k ≡ Some b
  pub below : (k b : ℕ) → slice_get fewer k ≡ Some b → b ≤ place
  pub shorter : length fewer ≤ length bounds

-- the statuses that result when each vertex of the list gets the status `Closed k`
abbrev pub close_all : List Status → List ℕ → ℕ → List Status
close_all statuses [] k = statuses
close_all statuses (v ∷ vs) k = close_all (slice_set statuses v (Closed k)) vs k

-- each vertex that is `Unseen` now was `Unseen` before
abbrev pub KeepsStatuses : List Status → List Status → Type 0
KeepsStatuses old new = (v : ℕ) → slice_get new v ≡ Some Unseen → slice_get old v ≡ Some Unseen

-- the pending link for one slot of the vertex at index p of the search path; none if the slot is empty
abbrev pub wait_of : ℕ → Option ℕ → List Pending
wait_of p None = []
wait_of p (Some to) = record { from = p; to = to } ∷ []

-- the pending links for the first n slots of the vertex `item`, which is at index p of the search path
abbrev pub waits : Digraph → ℕ → ℕ → ℕ → List Pending
waits g p item zero = []
waits g p item (suc n) = waits g p item n ++ wait_of p (g.target item n)

-- a bound on the number of remaining steps of the search
abbrev pub turns_of : Digraph → ℕ → Status → ℕ
turns_of g item Unseen = g.degree item + 2
turns_of g item (Active _) = 0
turns_of g item (Closed _) = 0

abbrev pub turns_from : Digraph → ℕ → List Status → ℕ
turns_from g item [] = 0
turns_from g item (m ∷ ms) = turns_of g item m + turns_from g (suc item) ms

abbrev pub turns : Digraph → List Status → List ℕ → List Pending → ℕ
turns g statuses bounds pending = turns_from g 0 statuses + length bounds + length pending

-- the number of the component of a finished vertex, and None for every other status
abbrev pub component_of : Status → Option ℕ
component_of Unseen = None
component_of (Active _) = None
component_of (Closed k) = Some k
