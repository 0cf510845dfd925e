-- A breadth-first search, and the path that it finds, read from its end back to its start.
use Rattle.std.proofs.Common.{rules}
use Rattle.std.proofs.Common.{◌≡◌, ◌∙◌, ℕ, ◌+◌, ◌-◌, ◌<◌, ◌≤◌, ◌⊎◌, inl, inr, List, [], ◌∷◌, ◌++◌, length, refl, sym}
use Rattle.std.proofs.Common.{ap, arith, Bool, true, false, Some, slice_get, set, suc, zero, length-append, length-set}
use Rattle.std.proofs.lemmas.Option.{slice_get_within}
use Rattle.std.proofs.lemmas.Bool.{cases_lt}
use Rattle.ps_components.specs.declared.trail.Step.{Step}
use Rattle.ps_components.specs.Graphs.{Digraph, Link, SameOrWay, Way, last, next}
use Rattle.ps_components.specs.Trails.{IsTrail}
use Rattle.ps_components.specs.Inner.Spreading.{IsSpread, AreApart, KeepsSteps, KeepsSeen, unseen}
use Rattle.ps_components.proofs.Places.{slice_get-append_left, slice_get-push, slice_get-push_cases}
use Rattle.ps_components.proofs.Places.{slice_get-set_cases}

unseen-set : (seen : List Bool) (v : ℕ) → slice_get seen v ≡ Some false → suc (unseen (set seen v true)) ≡ unseen seen
unseen-set [] v h = cc
unseen-set (false ∷ bs) zero h = refl
unseen-set (true ∷ bs) zero h = cc
unseen-set (false ∷ bs) (suc v) h = ap suc (unseen-set bs v h)
unseen-set (true ∷ bs) (suc v) h = unseen-set bs v h

module _ {g : Digraph} {seen : List Bool} {steps : List Step} {place : ℕ} (s : IsSpread g seen steps place)
    (to : ℕ) (new : slice_get seen to ≡ Some false) where
  abbrev seen' : List Bool
  seen' = set seen to true

  abbrev step : Step
  step = record { item = to; from = place }

  abbrev steps' : List Step
  steps' = steps ++ step ∷ []

  seen_cases : (v : ℕ) → (slice_get seen' v ≡ Some true) ⊎ (slice_get seen' v ≡ slice_get seen v)
  seen_cases v = search (rules, slice_get-set_cases, slice_get_within)

  there : slice_get seen' to ≡ Some true
  there = grind (arith, slice_get-set_cases seen to to true, slice_get_within seen to false new)

  pub keeps-seen : KeepsSeen seen seen'
  keeps-seen v h = elim (seen_cases v) [ inl e ↦ e | inr n ↦ n ∙ h ]

  pub keeps-steps : KeepsSteps steps steps'
  keeps-steps i t h = slice_get-append_left steps _ i t h

  pub fewer-unseen : unseen seen' + length steps' ≡ unseen seen + length steps
  fewer-unseen = omega (arith, unseen-set seen to new, length-append steps (step ∷ []))

  -- no earlier step of the breadth-first search reached the new vertex
  fresh : (i : ℕ) (t : Step) → slice_get steps i ≡ Some t → t.item ≡ to → ⊥
  fresh i t h e = cc (s.seen_steps i t h)

  pub reach-spread : {r : Step} → slice_get steps place ≡ Some r → Link g r.item to → IsSpread g seen' steps' place
  reach-spread {r} at l = record {
    within = s.within;
    counted = length-set seen to true ∙ s.counted;
    back = search (rules, slice_get-push_cases, keeps-steps, slice_get_within);
    apart = search (rules, slice_get-push_cases, fresh);
    reached = λ v h. elim (slice_get-set_cases seen to v true) [
      | inl e ↦ (length steps, step, slice_get-push steps step, sym e.0)
      | inr n ↦ (let b = s.reached v (sym n.1 ∙ h) in (b.0, b.1, keeps-steps b.0 b.1 b.2, b.3))
    ];
    seen_steps = search (rules, slice_get-push_cases, keeps-seen, there);
    looked = λ i w t lt h m. elim (slice_get-push_cases steps _ i t h) [
      | inl k ↦ keeps-seen w (s.looked i w t lt k m)
      | inr k ↦ absurd (omega (arith, k.0, lt, slice_get_within steps place r at))
    ];
  }

module _ {g : Digraph} {seen : List Bool} {steps : List Step} {place : ℕ} (s : IsSpread g seen steps place) where
  -- once all links of a step's vertex were examined, the breadth-first search proceeds to the next step
  pub next-spread : {r : Step} → slice_get steps place ≡ Some r →
      ((w : ℕ) → Link g r.item w → slice_get seen w ≡ Some true) → IsSpread g seen steps (place + 1)
  next-spread {r} at all = search (rules, cases_lt)

  -- once the links of all reached vertices were examined, every vertex reachable from a seen vertex was seen
  pub way-seen : {v w : ℕ} → length steps ≤ place → slice_get seen v ≡ Some true → SameOrWay g v w →
      slice_get seen w ≡ Some true
  way-seen all h (inl e) = rw e at h
  way-seen all h (inr way) = along way h
    where
      step-on : {v w : ℕ} → Link g v w → slice_get seen v ≡ Some true → slice_get seen w ≡ Some true
      step-on {v} {w} l h = (let b = s.reached v h in
          s.looked b.0 w b.1 (omega (arith, slice_get_within steps b.0 b.1 b.2)) b.2 (rw b.3 l))

      along : {v w : ℕ} → Way (Link g) v w → slice_get seen v ≡ Some true → slice_get seen w ≡ Some true
      along (last l) h = step-on l h
      along (next l y) h = along y (step-on l h)

  -- the number that a step of the breadth-first search reached is a vertex of the graph
  pub step-within : (i : ℕ) {r : Step} → slice_get steps i ≡ Some r → r.item < g.count
  step-within i {r} h = omega (arith, s.counted, slice_get_within seen r.item true (s.seen_steps i r h))

pub trail-one : {g : Digraph} (end : ℕ) → IsTrail g (end ∷ []) end end
trail-one end = search (rules, slice_get_within)

pub trail-more : {g : Digraph} {items : List ℕ} {end at to : ℕ} → IsTrail g items end at → Link g to at →
    ((i : ℕ) → slice_get items i ≡ Some to → ⊥) → IsTrail g (items ++ to ∷ []) end to
trail-more {g} {items} {end} {at} {to} t l new = record {
  first = slice_get-append_left items _ 0 end t.first;
  last = (let e : length (items ++ to ∷ []) - 1 ≡ length items = omega (arith, length-append items (to ∷ [])) in
      rw e (slice_get-push items to));
  links = λ i v w h k. elim (slice_get-push_cases items to i v h) [
    | inl a ↦ elim (slice_get-push_cases items to (i + 1) w k) [
      | inl b ↦ t.links i v w a b
      | inr b ↦ (let e : length items - 1 ≡ i = omega (arith, b.0) in
          let same : at ≡ v = cc (t.last) in rw (← b.1, ← same) l)
    ]
    | inr a ↦ absurd (omega (
      arith,
      a.0,
      slice_get_within (items ++ to ∷ []) (i + 1) w k,
      length-append items (to ∷ []),
    ))
  ];
  once = search (rules, slice_get-push_cases);
}

-- if each vertex of a list was reached in a step at index `at` or later, no vertex that an earlier step reached is in
-- the list
pub trail-new : (steps : List Step) (items : List ℕ) {at place : ℕ} {r : Step} → AreApart steps →
    ((k v : ℕ) → slice_get items k ≡ Some v → (i : ℕ) × (s : Step) × (at ≤ i) × (slice_get steps i ≡ Some s) ×
    (s.item ≡ v)) → place < at → slice_get steps place ≡ Some r → (k : ℕ) → slice_get items k ≡ Some r.item → ⊥
trail-new steps items {place = place} {r} apart placed lt here k h = search rules
