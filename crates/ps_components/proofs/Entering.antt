-- Appending a vertex to the search path preserves the invariant of the search.
use Rattle.std.proofs.Common.{◌≡◌, ◌≢◌, ℕ, ◌+◌, ◌<◌, ◌≤◌, ◌⊎◌, inl, inr, List, [], ◌∷◌, ◌++◌, length, refl, sym, ap}
use Rattle.std.proofs.Common.{◌∙◌, arith, Some, Option, slice_get, set, suc, zero, add-zero, rules}
use Rattle.std.proofs.Common.{length-append, length-set}
use Rattle.std.proofs.lemmas.Option.{slice_get_within}
use Rattle.std.proofs.lemmas.Bool.{cases_eq, cases_lt}
use Rattle.ps_components.specs.declared.statuses.Status.{Status}
use Rattle.ps_components.specs.declared.statuses.Status.TheVariants.{Unseen, Active, Closed}
use Rattle.ps_components.specs.declared.search.Pending.{Pending}
use Rattle.ps_components.specs.Graphs.{Digraph, Link, SameOrWay, Way}
use Rattle.ps_components.specs.Searching.{NoLater, IsSettled, closed, active as settled_active, IsPending}
use Rattle.ps_components.specs.Searching.{IsSoundSearch, IsSoundBut, wait_of, waits, turns, turns_of, turns_from}
use Rattle.ps_components.proofs.Places.{slice_get-append_left, slice_get-append_cases, slice_get-append_right}
use Rattle.ps_components.proofs.Places.{slice_get-push, slice_get-push_cases, slice_get-set_cases}

-- each numbered slot of a vertex, which holds the target of a link or is empty, gives at most one pending link
wait_of-length : (n : ℕ) (side : Option ℕ) → length (wait_of n side) ≤ 1
wait_of-length n side = search rules

wait_of-only : (n : ℕ) (side : Option ℕ) (i : ℕ) (e : Pending) → slice_get (wait_of n side) i ≡ Some e →
    (e.from ≡ n) × (side ≡ Some e.to)
wait_of-only n side i e h = search rules

wait_of-there : (n to : ℕ) (side : Option ℕ) → side ≡ Some to →
    slice_get (wait_of n side) 0 ≡ Some (record { from = n; to = to })
wait_of-there n to side h = rw h

waits-length : (g : Digraph) (p item n : ℕ) → length (waits g p item n) ≤ n
waits-length g p item zero = omega arith
waits-length g p item (suc n) = search (rules, wait_of-length, length-append, waits-length g p item n)

-- each pending link that the slots of a vertex give is a link of the graph from this vertex
waits-link : (g : Digraph) (p item n : ℕ) → item < g.count → n ≤ g.degree item → (i : ℕ) (e : Pending) →
    slice_get (waits g p item n) i ≡ Some e → (e.from ≡ p) × Link g item e.to
waits-link g p item zero lt le i e h = cc
waits-link g p item (suc n) lt le i e h =
    elim (slice_get-append_cases (waits g p item n) (wait_of p (g.target item n)) i e h) [
      | inl k ↦ waits-link g p item n lt (omega arith) i e k
      | inr k ↦ search (rules, wait_of-only)
    ]

-- each nonempty slot of a vertex gives a pending link to the slot's target
waits-there : (g : Digraph) (p item n place w : ℕ) → place < n → g.target item place ≡ Some w →
    (i : ℕ) × (slice_get (waits g p item n) i ≡ Some (record { from = p; to = w }))
waits-there g p item zero place w lt h = absurd (omega arith)
waits-there g p item (suc n) place w lt h = elim (cases_lt place n) [
  | inl less ↦ search (rules, slice_get-append_left, waits-there g p item n place w less h)
  | inr le ↦ (let e : place ≡ n = omega arith in (
    length (waits g p item n) + 0,
    slice_get-append_right (waits g p item n) _ 0 _ (grind (arith, wait_of-there)),
  ))
]

-- each status contributes a number to the bound on the remaining steps; if one status changes, the sum of these numbers
-- changes by the difference between the new number and the old one
turns_from-set : (g : Digraph) (first : ℕ) (statuses : List Status) (i : ℕ) (old new : Status) →
    slice_get statuses i ≡ Some old →
    turns_from g first (set statuses i new) + turns_of g (first + i) old ≡ turns_from g
    first statuses + turns_of g (first + i) new
turns_from-set g first [] i old new h = cc
turns_from-set g first (m ∷ ms) zero old new h = let same : m ≡ old = cc in rw (same, add-zero) (omega arith)
turns_from-set g first (m ∷ ms) (suc i) old new h = grind (arith, turns_from-set g (suc first) ms i old new h)

module _ {g : Digraph} {statuses : List Status} {active bounds : List ℕ} {pending : List Pending} {order : List ℕ}
    {item : ℕ} (but : IsSoundBut g item statuses active bounds pending order) (within : item < g.count)
    (unseen : slice_get statuses item ≡ Some Unseen)
    (reached : (p v : ℕ) → slice_get active p ≡ Some v → Way (Link g) v item) where
  abbrev s : IsSoundSearch g statuses active bounds (pending ++ but.skipped) order
  s = but.sound

  abbrev place : ℕ
  place = length active

  abbrev statuses' : List Status
  statuses' = set statuses item (Active place)

  abbrev active' : List ℕ
  active' = active ++ item ∷ []

  abbrev bounds' : List ℕ
  bounds' = bounds ++ place ∷ []

  abbrev more : List Pending
  more = waits g place item (g.degree item)

  abbrev pending' : List Pending
  pending' = pending ++ more

  -- ---- statuses

  status_cases : (v : ℕ) → ((v ≡ item) × (slice_get statuses' v ≡ Some (Active place))) ⊎
      ((v ≢ item) × (slice_get statuses' v ≡ slice_get statuses v))
  status_cases v = search (rules, slice_get-set_cases, slice_get_within)

  status_on : (v : ℕ) (m : Status) → (m ≡ Unseen → ⊥) → slice_get statuses v ≡ Some m → slice_get statuses' v ≡ Some m
  status_on v m seen h = grind (arith, status_cases v)

  closed_on : (v k : ℕ) → slice_get statuses v ≡ Some (Closed k) → slice_get statuses' v ≡ Some (Closed k)
  closed_on v k h = status_on v (Closed k) (λ e. cc) h

  closed_back : (v k : ℕ) → slice_get statuses' v ≡ Some (Closed k) → slice_get statuses v ≡ Some (Closed k)
  closed_back v k h = grind (arith, status_cases v)

  pub kept-entered : (v : ℕ) → slice_get statuses' v ≡ Some Unseen → slice_get statuses v ≡ Some Unseen
  kept-entered v h = grind (arith, status_cases v)

  -- ---- the search path, and where its segments begin

  path_cases : (p v : ℕ) → slice_get active' p ≡ Some v → ((slice_get active p ≡ Some v) × (p < place)) ⊎
      ((p ≡ place) × (item ≡ v))
  path_cases p v h = search (rules, slice_get-push_cases, slice_get_within)

  bound_cases : (i b : ℕ) → slice_get bounds' i ≡ Some b →
      ((slice_get bounds i ≡ Some b) × (i < length bounds) × (b < place)) ⊎ ((i ≡ length bounds) × (place ≡ b))
  bound_cases i b h = search (rules, slice_get-push_cases, slice_get_within)

  entered-active_marked : (p v : ℕ) → slice_get active' p ≡ Some v → slice_get statuses' v ≡ Some (Active p)
  entered-active_marked p v h = grind (arith, path_cases p v h, status_cases v, s.active_marked p v)

  entered-marked_active : (p v : ℕ) → slice_get statuses' v ≡ Some (Active p) → slice_get active' p ≡ Some v
  entered-marked_active p v h =
      grind (arith, status_cases v, slice_get-push active item, slice_get-append_left active (item ∷ []) p v)

  entered-bounds_rise : (i j b c : ℕ) → slice_get bounds' i ≡ Some b → slice_get bounds' j ≡ Some c → i < j → b < c
  entered-bounds_rise i j b c hi hj lt = grind (arith, bound_cases i b hi, bound_cases j c hj, s.bounds_rise i j b c)

  entered-bounds_within : (i b : ℕ) → slice_get bounds' i ≡ Some b → b < length active'
  entered-bounds_within i b h = omega (arith, bound_cases i b h, length-append active (item ∷ []))

  entered-bounds_start : slice_get bounds' 0 ≡ Some 0
  entered-bounds_start = grind (arith, cases_eq, by, slice_get-append_left)
    where
      by : (bs : List ℕ) → ((i b : ℕ) → slice_get bs i ≡ Some b → b < place) → place ≡ 0 →
          slice_get (bs ++ place ∷ []) 0 ≡ Some 0
      by [] below e = ap Some e
      by (b ∷ bs) below e = absurd (omega (arith, below 0 b refl, e))

  entered-together : (p q v w : ℕ) → slice_get active' p ≡ Some v → slice_get active' q ≡ Some w →
      NoLater bounds' p q → SameOrWay g v w
  entered-together p q v w hp hq later = elim (path_cases p v hp) [
    | inl kp ↦ elim (path_cases q w hq) [
      | inl kq ↦ s.together p q v w kp.0 kq.0 (λ k b h. later k b (slice_get-append_left bounds _ k b h))
      | inr kq ↦ inr (rw kq.1 at (reached p v kp.0))
    ]
    | inr kp ↦ grind (arith, path_cases q w hq, slice_get-push bounds place)
  ]

  -- ---- the links that are still to be followed

  there_too : (i : ℕ) (e : Pending) → slice_get pending i ≡ Some e → slice_get (pending ++ but.skipped) i ≡ Some e
  there_too i e h = slice_get-append_left pending but.skipped i e h

  -- a pending link is a link of the new vertex, or it was pending before and starts before the new vertex on the search
  -- path
  entry_cases : (i : ℕ) (e : Pending) → slice_get pending' i ≡ Some e →
      ((slice_get pending i ≡ Some e) × (i < length pending) × (e.from < place))
      ⊎ ((length pending ≤ i) × (e.from ≡ place) × Link g item e.to)
  entry_cases i e h = search (rules, slice_get-append_cases, there_too, slice_get_within, waits-link)

  entered-pending_links : (i : ℕ) (e : Pending) → slice_get pending' i ≡ Some e →
      (v : ℕ) × (slice_get active' e.from ≡ Some v) × Link g v e.to
  entered-pending_links i e h =
      grind (arith, entry_cases i e h, there_too, slice_get-append_left, slice_get-push active item)

  entered-pending_rise : (i j : ℕ) (e f : Pending) → slice_get pending' i ≡ Some e → slice_get pending' j ≡ Some f →
      i < j → e.from ≤ f.from
  entered-pending_rise i j e f hi hj lt = elim (entry_cases i e hi) [
    | inl ki ↦ elim (entry_cases j f hj) [
      | inl kj ↦ s.pending_rise i j e f (there_too i e ki.0) (there_too j f kj.0) lt
      | inr kj ↦ omega (arith, ki.2, kj.1)
    ]
    | inr ki ↦ omega (arith, ki, entry_cases j f hj, lt)
  ]

  waiting : (w : ℕ) → Link g item w → IsPending pending' place w
  waiting w l =
      let t = waits-there g place item (g.degree item) l.place w l.at l.target in
      grind (arith, slice_get-append_right pending more t.0 _ t.1)

  entered : (p w : ℕ) → p < place → w ≡ item → IsSettled statuses' bounds' p w
  entered p w lt same = settled_active place (grind (arith, status_cases w)) (λ k b h le. omega arith)

  still : (p w : ℕ) → p < place → IsSettled statuses bounds p w → IsSettled statuses' bounds' p w
  still p w lt (closed k c) = closed k (closed_on w k c)
  still p w lt (settled_active q a later) = settled_active q (status_on w (Active q) (λ e. cc) a)
      (λ k b h le. elim (bound_cases k b h) [ inl y ↦ later k b y.0 le | inr y ↦ absurd (omega (arith, y.1)) ])

  entered-looked_at : (p v w : ℕ) → slice_get active' p ≡ Some v → Link g v w →
      IsPending pending' p w ⊎ IsSettled statuses' bounds' p w
  entered-looked_at p v w h l = elim (path_cases p v h) [
    | inl k ↦ elim (s.looked_at p v w k.0 l) [
      | inl y ↦ elim (slice_get-append_cases pending but.skipped y.at y.step y.is) [
        | inl old ↦ inl (grind (arith, slice_get-append_left))
        | inr gone ↦ inr (entered p w k.1 (sym y.to_is ∙ but.lead gone.0 y.step gone.2))
      ]
      | inr y ↦ inr (still p w k.1 y)
    ]
    | inr k ↦ inl (rw k.0 (waiting w (rw (← k.1) at l)))
  ]

  pub sound-entered : IsSoundSearch g statuses' active' bounds' pending' order
  sound-entered = record {
    within = s.within;
    marked = length-set statuses item _ ∙ s.marked;
    active_marked = entered-active_marked;
    marked_active = entered-marked_active;
    bounds_rise = entered-bounds_rise;
    bounds_within = entered-bounds_within;
    bounds_start = λ _. entered-bounds_start;
    pending_links = entered-pending_links;
    pending_rise = entered-pending_rise;
    together = entered-together;
    looked_at = entered-looked_at;
    closed_links = λ v k w h l. (let m = s.closed_links v k w (closed_back v k h) l in (m.0, closed_on w m.0 m.1, m.2));
    same = λ v w k hv hw. s.same v w k (closed_back v k hv) (closed_back w k hw);
    numbered = λ v k h. s.numbered v k (closed_back v k h);
    begins = λ v k h. (let b = s.begins v k (closed_back v k h) in (b.0, b.1, closed_on b.0 k b.2));
    starts = λ i v k h hv. s.starts i v k h (closed_back v k hv);
    listed = λ v k h. s.listed v k (closed_back v k h);
    ordered = λ i v h. (let c = s.ordered i v h in (c.0, closed_on v c.0 c.1));
    rises = search (rules, closed_back);
    once = s.once;
  }

  pub fewer-entered : turns g statuses' bounds' pending' < turns g statuses bounds pending
  fewer-entered = grind (
    arith,
    turns_from-set g 0 statuses item Unseen (Active place) unseen,
    length-append bounds (place ∷ []),
    length-append pending more,
    waits-length g place item (g.degree item),
  )
