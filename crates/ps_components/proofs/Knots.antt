-- A vertex is on a cycle if and only if one of its links leads into the vertex's own component.
use Rattle.std.proofs.Common.{◌≡◌, ℕ, ◌<◌, ◌≤◌, inl, inr, refl, arith, Some, slice_get, rules}
use Rattle.std.proofs.lemmas.Option.{slice_get_within}
use Rattle.std.proofs.lemmas.Bool.{cases_lt, cases_eq}
use Rattle.ps_components.specs.Graphs.{Digraph, Link, Way, last, next}
use Rattle.ps_components.specs.ComponentLists.{ComponentsData, IsIn, AreComponents, AreAllMet}
use Rattle.ps_components.specs.Orders.{IsOrder, IsFirstOnCycle, IsKnot}

-- a path along links never leads to a component with a greater number
pub way_falls : {g : Digraph} {c : ComponentsData} → AreComponents g c → {i j k : ℕ} → Way (Link g) i j → IsIn c i k →
    (m : ℕ) × IsIn c j m × (m ≤ k)
way_falls a {i} {j} {k} (last r) h = a.falls i k j h r
way_falls a {i} {j} {k} (next {j = x} r w) h =
    let m = a.falls i k x h r in
    grind (arith, way_falls a w m.1)

module _ {g : Digraph} {c : ComponentsData} (a : AreComponents g c) (met : AreAllMet g c) where
  knot_at : {i j k m : ℕ} → Link g i j → IsIn c i k → IsIn c j m → m ≡ k → IsKnot g c i
  knot_at {k = k} l hi hj e = record { to = _; link = l; number = k; here = hi; there = rw e at hj }

  pub knot_of_cycle : (i : ℕ) → Way (Link g) i i → IsKnot g c i
  knot_of_cycle i w = first i i w refl
    where
      first : (i j : ℕ) → Way (Link g) i j → i ≡ j → IsKnot g c i
      first i j (last r) e = (let k = met i r.from in knot_at r k.1 (cc (k.1)) refl)
      first i j (next {j = x} r v) e =
          let k = met i r.from in
          let m = a.falls i k.0 x k.1 r in
          grind (arith, way_falls a v m.1)

  pub cycle_of_knot : (i : ℕ) → IsKnot g c i → Way (Link g) i i
  cycle_of_knot i k = elim (a.same k.to i k.number k.there k.here) [
    | inl e ↦ (let w : Way (Link g) i k.to = last k.link in rw e at w)
    | inr w ↦ next k.link w
  ]

  pub first-knot : (i : ℕ) → IsKnot g c i → ((j : ℕ) → j < i → IsKnot g c j → ⊥) → IsFirstOnCycle (Link g) i
  first-knot i k none = search (rules, cycle_of_knot, cases_lt, knot_of_cycle)

  pub no_cycle : ((i : ℕ) → i < g.count → IsKnot g c i → ⊥) → (i : ℕ) → Way (Link g) i i → ⊥
  no_cycle none i w = (let k = knot_of_cycle i w in none i k.link.from k)

  -- of two vertices in the list of finished vertices, the one whose component has the smaller number comes first
  lower_first : (k l i j n m : ℕ) → slice_get c.order k ≡ Some i → slice_get c.order l ≡ Some j → IsIn c i n →
      IsIn c j m → m < n → l < k
  lower_first k l i j n m hk hl hi hj less = grind (arith, a.rises k l i j n m)

  pub order-of_components : ((i : ℕ) → i < g.count → IsKnot g c i → ⊥) → IsOrder (Link g) g.count c.order
  order-of_components none = record {
    within = λ k i h. (let o = a.ordered k i h in omega (arith, a.counted, slice_get_within c.numbers i _ o.1));
    once = a.once;
    each = λ i lt. (let k = met i lt in a.listed i k.0 k.1);
    behind = search (rules, cases_eq, knot_at, lower_first);
  }
