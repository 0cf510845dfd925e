-- Turning the last segment of the search path into a finished component preserves the invariant of the search.
use Rattle.std.proofs.Common.{◌≡◌, ◌≢◌, ℕ, ◌+◌, ◌-◌, ◌<◌, ◌≤◌, ◌⊎◌, inl, inr, List, [], ◌∷◌, ◌++◌, length, take, drop}
use Rattle.std.proofs.Common.{refl, sym, ◌∙◌, arith, Some, slice_get, set, get_or, suc, zero, rules}
use Rattle.std.proofs.Common.{length-set, add-zero}
use Rattle.std.proofs.lemmas.Option.{slice_get_within, slice_get-get_or}
use Rattle.std.proofs.lemmas.Bool.{cases_lt}
use Rattle.std.proofs.lemmas.List.{length-take-le}
use Rattle.ps_components.specs.declared.statuses.Status.{Status}
use Rattle.ps_components.specs.declared.statuses.Status.TheVariants.{Unseen, Active, Closed}
use Rattle.ps_components.specs.declared.search.Pending.{Pending}
use Rattle.ps_components.specs.Graphs.{Digraph, Link, SameOrWay}
use Rattle.ps_components.specs.Searching.{NoLater, IsSettled, closed, active as settled_active, IsSoundSearch}
use Rattle.ps_components.specs.Searching.{close_all, turns_from, turns}
use Rattle.ps_components.proofs.Places.{slice_get-append_left, slice_get-append_cases, slice_get-append_right}
use Rattle.ps_components.proofs.Places.{slice_get-but_last, slice_get-set_cases, slice_get-take, slice_get-take_back}
use Rattle.ps_components.proofs.Places.{slice_get-drop, length-but_last}

length-close_all : (statuses : List Status) (vs : List ℕ) (k : ℕ) → length (close_all statuses vs k) ≡ length statuses
length-close_all statuses [] k = refl
length-close_all statuses (v ∷ vs) k = length-close_all (set statuses v (Closed k)) vs k
    ∙ length-set statuses v (Closed k)

-- after `close_all`, each vertex of the list has the status `Closed k` (finished, in component k), and all other
-- vertices keep their statuses
pub close_all_cases : (statuses : List Status) (vs : List ℕ) (k v : ℕ) →
    ((j : ℕ) × (slice_get vs j ≡ Some v) ×
    (v < length statuses → slice_get (close_all statuses vs k) v ≡ Some (Closed k)))
    ⊎ (((j : ℕ) → slice_get vs j ≢ Some v) × (slice_get (close_all statuses vs k) v ≡ slice_get statuses v))
close_all_cases statuses [] k v = inr (λ j h. cc, refl)
close_all_cases statuses (w ∷ vs) k v = elim (close_all_cases (set statuses w (Closed k)) vs k v) [
  | inl y ↦ inl (suc y.0, y.1, λ lt. y.2 (omega (arith, length-set statuses w (Closed k))))
  | inr n ↦ search (rules, slice_get-set_cases, apart)
]
  where
    apart : v ≢ w → ((j : ℕ) → slice_get vs j ≢ Some v) → (j : ℕ) → slice_get (w ∷ vs) j ≢ Some v
    apart ne out h3 h = grind arith

-- giving a vertex the status `Closed` does not increase the bound on the remaining steps of the search
turns-close_one : (g : Digraph) (first : ℕ) (statuses : List Status) (v k : ℕ) →
    turns_from g first (set statuses v (Closed k)) ≤ turns_from g first statuses
turns-close_one g first [] v k = omega arith
turns-close_one g first (m ∷ ms) zero k = omega arith
turns-close_one g first (m ∷ ms) (suc v) k = omega (arith, turns-close_one g (suc first) ms v k)

turns-close_all : (g : Digraph) (statuses : List Status) (vs : List ℕ) (k : ℕ) →
    turns_from g 0 (close_all statuses vs k) ≤ turns_from g 0 statuses
turns-close_all g statuses [] k = omega arith
turns-close_all g statuses (v ∷ vs) k =
    search (rules, turns-close_one, turns-close_all g (set statuses v (Closed k)) vs k)

module _ {g : Digraph} {statuses : List Status} {active bounds : List ℕ} {pending : List Pending} {order : List ℕ}
    {bound : ℕ} (s : IsSoundSearch g statuses active bounds pending order)
    (is_last : slice_get bounds (length bounds - 1) ≡ Some bound)
    (done : (i : ℕ) (e : Pending) → slice_get pending i ≡ Some e → e.from < bound) where
  abbrev number : ℕ
  number = length order

  abbrev front : List ℕ
  front = take (length bounds - 1) bounds

  abbrev statuses' : List Status
  statuses' = close_all statuses (drop bound active) number

  abbrev order' : List ℕ
  order' = order ++ drop bound active

  -- ---- where segments begin, and indices on the search path

  bound_cases : (k b : ℕ) → slice_get bounds k ≡ Some b → (slice_get front k ≡ Some b) ⊎ (bound ≡ b)
  bound_cases k b h = slice_get-but_last bounds is_last k b h

  in_front : (k b : ℕ) → slice_get front k ≡ Some b → (slice_get bounds k ≡ Some b) × (b < bound)
  in_front k b h = search (rules, slice_get-take_back, slice_get_within, length-but_last)

  at_most : (k b : ℕ) → slice_get bounds k ≡ Some b → b ≤ bound
  at_most k b h = grind (arith, bound_cases k b h, in_front k b)

  bound_below : bound < length active
  bound_below = s.bounds_within _ bound is_last

  short : length (take bound active) ≡ bound
  short = length-take-le bound active (omega (arith, bound_below))

  on_path : (p v : ℕ) → slice_get (take bound active) p ≡ Some v → (slice_get active p ≡ Some v) × (p < bound)
  on_path p v h = search (rules, slice_get-take_back, slice_get_within, short)

  from_segment : (j v : ℕ) → slice_get (drop bound active) j ≡ Some v → slice_get active (bound + j) ≡ Some v
  from_segment j v h = sym (slice_get-drop bound active j) ∙ h

  in_segment : (p v : ℕ) → bound ≤ p → slice_get active p ≡ Some v → slice_get (drop bound active) (p - bound) ≡ Some v
  in_segment p v le h = search (rules, slice_get-drop)

  -- ---- statuses

  -- each vertex of the last segment has the status `Closed` now, and all other vertices keep their statuses
  status_cases : (v : ℕ) →
      ((p : ℕ) × (bound ≤ p) × (slice_get active p ≡ Some v) × (slice_get statuses' v ≡ Some (Closed number)))
      ⊎ (((p : ℕ) → bound ≤ p → slice_get active p ≢ Some v) × (slice_get statuses' v ≡ slice_get statuses v))
  status_cases v = search (rules, close_all_cases, from_segment, slice_get_within, in_segment)

  now_closed : (p v : ℕ) → bound ≤ p → slice_get active p ≡ Some v → slice_get statuses' v ≡ Some (Closed number)
  now_closed p v le h = grind (arith, status_cases v)

  -- the status of a vertex outside the last segment is unchanged
  stays : (v : ℕ) (m : Status) → ((p : ℕ) → m ≡ Active p → p < bound) → slice_get statuses v ≡ Some m →
      slice_get statuses' v ≡ Some m
  stays v m out h = grind (arith, status_cases v, s.active_marked)

  closed_stays : (v k : ℕ) → slice_get statuses v ≡ Some (Closed k) → slice_get statuses' v ≡ Some (Closed k)
  closed_stays v k h = stays v (Closed k) (λ p e. cc) h

  closed_cases : (v k : ℕ) → slice_get statuses' v ≡ Some (Closed k) →
      (slice_get statuses v ≡ Some (Closed k)) ⊎
      ((k ≡ number) × ((p : ℕ) × (bound ≤ p) × (slice_get active p ≡ Some v)))
  closed_cases v k h = grind (arith, status_cases v)

  -- no vertex on the search path has the status `Closed`, and each vertex on the search path is at only one index
  apart : (p v k : ℕ) → slice_get active p ≡ Some v → slice_get statuses v ≡ Some (Closed k) → ⊥
  apart p v k h c = cc (s.active_marked p v h)

  one_place : (p q v : ℕ) → slice_get active p ≡ Some v → slice_get active q ≡ Some v → p ≡ q
  one_place p q v hp hq = cc (s.active_marked p v hp, s.active_marked q v hq)

  -- an entry of the new list of finished vertices is an entry of the old list or a vertex of the last segment
  place_cases : (i v : ℕ) → slice_get order' i ≡ Some v → (slice_get order i ≡ Some v) ⊎
      ((j : ℕ) × (i ≡ number + j) × (slice_get active (bound + j) ≡ Some v))
  place_cases i v h = search (rules, slice_get-append_cases, from_segment)

  -- ---- the fields of the search's invariant

  closed-active_marked : (p v : ℕ) → slice_get (take bound active) p ≡ Some v → slice_get statuses' v ≡ Some (Active p)
  closed-active_marked p v h = grind (arith, status_cases v, on_path p v h, s.active_marked p v, one_place)

  closed-marked_active : (p v : ℕ) → slice_get statuses' v ≡ Some (Active p) → slice_get (take bound active) p ≡ Some v
  closed-marked_active p v h = grind (arith, status_cases v, s.marked_active p v, slice_get-take bound active p)

  closed-bounds_start : 0 < length (take bound active) → slice_get front 0 ≡ Some 0
  closed-bounds_start h = search (rules, bound_cases, bound_below, short)

  closed-together : (p q v w : ℕ) → slice_get (take bound active) p ≡ Some v →
      slice_get (take bound active) q ≡ Some w → NoLater front p q → SameOrWay g v w
  closed-together p q v w hp hq later = search (rules, on_path, bound_cases)

  still : (p w : ℕ) → IsSettled statuses bounds p w → IsSettled statuses' front p w
  still p w (closed k c) = closed k (closed_stays w k c)
  still p w (settled_active q a later) = elim (cases_lt q bound) [
    | inl lt ↦ settled_active q (grind (arith, stays)) (λ k b h. later k b (in_front k b h).0)
    | inr le ↦ closed number (now_closed q w le (s.marked_active q w a))
  ]

  -- each link from the last segment leads to a vertex that has the status `Closed` now
  led_to : (p w : ℕ) → bound ≤ p → IsSettled statuses bounds p w →
      (m : ℕ) × (slice_get statuses' w ≡ Some (Closed m)) × (m ≤ number)
  led_to p w le (closed k c) = (k, closed_stays w k c, omega (arith, s.numbered w k c))
  led_to p w le (settled_active q a later) = (number, now_closed q w (grind arith) (s.marked_active q w a), omega arith)

  closed-closed_links : (v k w : ℕ) → slice_get statuses' v ≡ Some (Closed k) → Link g v w →
      (m : ℕ) × (slice_get statuses' w ≡ Some (Closed m)) × (m ≤ k)
  closed-closed_links v k w h l = elim (closed_cases v k h) [
    | inl y ↦ (let m = s.closed_links v k w y l in (m.0, closed_stays w m.0 m.1, m.2))
    | inr y ↦ elim (s.looked_at y.1.0 v w y.1.2 l) [
      | inl waits ↦ absurd (omega (arith, done waits.at waits.step waits.is, waits.from_is, y.1.1))
      | inr t ↦ (let m = led_to y.1.0 w y.1.1 t in (m.0, m.1, omega (arith, m.2, y.0)))
    ]
  ]

  closed-same : (v w k : ℕ) → slice_get statuses' v ≡ Some (Closed k) → slice_get statuses' w ≡ Some (Closed k) →
      SameOrWay g v w
  closed-same v w k hv hw = search (rules, closed_cases, at_most)

  closed-begins : (v k : ℕ) → slice_get statuses' v ≡ Some (Closed k) →
      (u : ℕ) × (slice_get order' k ≡ Some u) × (slice_get statuses' u ≡ Some (Closed k))
  closed-begins v k h = elim (closed_cases v k h) [
    | inl y ↦ (let b = s.begins v k y in (b.0, slice_get-append_left order _ k b.0 b.1, closed_stays b.0 k b.2))
    | inr y ↦ (let first = slice_get-get_or active bound 0 bound_below in
        let here = slice_get-append_right order (drop bound active) 0 (get_or active bound 0)
        (slice_get-drop bound active 0 ∙ rw add-zero first) in
        (get_or active bound 0, rw y.0 (rw add-zero at here), rw y.0 (now_closed bound _ (omega arith) first)))
  ]

  closed-starts : (i v k : ℕ) → slice_get order' i ≡ Some v → slice_get statuses' v ≡ Some (Closed k) → k ≤ i
  closed-starts i v k h hv = grind (arith, closed_cases v k hv, place_cases i v h, s.starts i v k, s.ordered i v, apart)

  closed-listed : (v k : ℕ) → slice_get statuses' v ≡ Some (Closed k) → (i : ℕ) × (slice_get order' i ≡ Some v)
  closed-listed v k h = elim (closed_cases v k h) [
    | inl y ↦ (let i = s.listed v k y in (i.0, slice_get-append_left order _ i.0 v i.1))
    | inr y ↦ (number + (y.1.0 - bound), slice_get-append_right order _ _ v (in_segment y.1.0 v y.1.1 y.1.2))
  ]

  closed-ordered : (i v : ℕ) → slice_get order' i ≡ Some v → (k : ℕ) × (slice_get statuses' v ≡ Some (Closed k))
  closed-ordered i v h = elim (place_cases i v h) [
    | inl o ↦ (let c = s.ordered i v o in (c.0, closed_stays v c.0 c.1))
    | inr o ↦ (number, now_closed (bound + o.0) v (omega arith) o.2)
  ]

  closed-rises : (i j v w k m : ℕ) → i < j → slice_get order' i ≡ Some v → slice_get order' j ≡ Some w →
      slice_get statuses' v ≡ Some (Closed k) → slice_get statuses' w ≡ Some (Closed m) → k ≤ m
  closed-rises i j v w k m lt hi hj hv hw = search (rules, closed_cases, place_cases, apart, slice_get_within)

  closed-once : (i j v : ℕ) → slice_get order' i ≡ Some v → slice_get order' j ≡ Some v → i ≡ j
  closed-once i j v hi hj = grind (arith, place_cases, apart, one_place)

  pub sound-closed : IsSoundSearch g statuses' (take bound active) front pending order'
  sound-closed = record {
    within = s.within;
    marked = length-close_all statuses (drop bound active) number ∙ s.marked;
    active_marked = closed-active_marked;
    marked_active = closed-marked_active;
    bounds_rise = λ i j b c hi hj. s.bounds_rise i j b c (in_front i b hi).0 (in_front j c hj).0;
    bounds_within = λ i b h. omega (arith, in_front i b h, short);
    bounds_start = closed-bounds_start;
    pending_links = search (rules, slice_get-take);
    pending_rise = s.pending_rise;
    together = closed-together;
    looked_at = λ p v w h l. elim (s.looked_at p v w (on_path p v h).0 l) [ inl y ↦ inl y | inr y ↦ inr (still p w y) ];
    closed_links = closed-closed_links;
    same = closed-same;
    numbered = λ v k h. (let i = closed-begins v k h in slice_get_within order' k i.0 i.1);
    begins = closed-begins;
    starts = closed-starts;
    listed = closed-listed;
    ordered = closed-ordered;
    rises = closed-rises;
    once = closed-once;
  }

  pub in_range : (j v : ℕ) → slice_get (drop bound active) j ≡ Some v → v < length statuses
  in_range j v h = slice_get_within statuses v _ (s.active_marked (bound + j) v (from_segment j v h))

  pub fewer-closed : turns g statuses' front pending < turns g statuses bounds pending
  fewer-closed = omega (arith, turns-close_all g statuses (drop bound active) number, length-but_last bounds is_last)

  pub kept-closed : (v : ℕ) → slice_get statuses' v ≡ Some Unseen → slice_get statuses v ≡ Some Unseen
  kept-closed v h = grind (arith, status_cases v)
