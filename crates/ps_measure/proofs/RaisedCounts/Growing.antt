-- Counts do not decrease along the paths of a graph. The total weight of the vertices in a component and in all later
-- components is at least the weight of each vertex of this component, and at most the total weight of all vertices.
use Rattle.std.proofs.Common.{◌≡◌, ℕ, ◌+◌, ◌<◌, ◌≤◌, inl, inr, refl, ap, arith, Option, Some, rules, cond}
use Rattle.std.specs.Prelude.{slice_get}
use Rattle.std.proofs.lemmas.Bool.{le-leb, lt-leb}
use Rattle.std.proofs.lemmas.Bool.Decides.{nat_tests}
use Rattle.std.proofs.lemmas.Option.{slice_get_within}
use Rattle.ps_components.specs.Graphs.{Digraph, Link, Way, last, next}
use Rattle.ps_components.specs.ComponentLists.{ComponentsData, AreComponents, IsIn}
use Rattle.ps_measure.specs.Sums.{sum_below}
use Rattle.ps_measure.specs.Inner.Columns.{AreCounts, weight_from, weights_from}
use Rattle.ps_measure.proofs.RaisedCounts.Summing.{sum_below-le, sum_below-more, sum_below-zero}

-- counts do not decrease along links, and therefore do not decrease along paths
grow : {g : Digraph} (weight d : ℕ → ℕ) → AreCounts g weight d → {w v : ℕ} → Way (Link g) w v → d w ≤ d v
grow weight d counts {w} {v} (last link) = omega (arith, counts w v link)
grow weight d counts {w} (next {j = u} link way) = omega (arith, counts w u link, grow weight d counts way)

-- all vertices of a strongly connected component have the same count
pub one_count : {g : Digraph} (weight d : ℕ → ℕ) {c : ComponentsData} {w v k : ℕ} → AreComponents g c →
    AreCounts g weight d → IsIn c w k → IsIn c v k → d w ≤ d v
one_count weight d {w = w} {v} {k} components counts from to = elim (components.same w v k from to) [
  | inl same ↦ rw same (omega arith)
  | inr way ↦ grow weight d counts way
]

-- a number that has a component is a vertex of the graph
pub met_below : {g : Digraph} {c : ComponentsData} {v k : ℕ} → AreComponents g c → IsIn c v k → v < g.count
met_below {c = c} {v} {k} components met = omega (arith, slice_get_within c.numbers v (Some k) met, components.counted)

-- let m be at most k: what a vertex adds to the total weight of the components from m on is at least what it adds to
-- the total weight of the components from k on
weight_from-later : (k m x : ℕ) (o : Option (Option ℕ)) → m ≤ k → weight_from k o x ≤ weight_from m o x
weight_from-later k m x o h = search (rules, nat_tests)

weight_from-bound : (k x : ℕ) (o : Option (Option ℕ)) → weight_from k o x ≤ x
weight_from-bound k x o = search (rules, nat_tests)

module _ {g : Digraph} {c : ComponentsData} (weight : ℕ → ℕ) {m : ℕ} (components : AreComponents g c)
    (v : ℕ) (is : IsIn c v m) where
  all_here : weight_from m (slice_get c.numbers v) (weight v) ≡ weight v
  all_here = rw is (ap (λ b. cond b (weight v) 0) (le-leb m m (omega arith)))

  -- let k be greater than m: the total weight of the components from m on is at least the total weight of the
  -- components from k on, plus the weight of v, a vertex of component m
  pub weights_from-more : {k : ℕ} → m < k → weights_from c weight k g.count + weight v ≤ weights_from c weight m g.count
  weights_from-more {k} less =
      let none : weight_from k (slice_get c.numbers v) (weight v) ≡ 0 = rw is (grind (arith, lt-leb)) in
      sum_below-more (λ u. weight_from k (slice_get c.numbers u) (weight u))
      (λ u. weight_from m (slice_get c.numbers u) (weight u)) g.count v (weight v) (met_below components is)
      (λ u _. weight_from-later k m (weight u) (slice_get c.numbers u) (omega arith)) (omega (arith, none, all_here))

  -- the total weight of the components from m on is at least the weight of v, a vertex of component m
  pub weights_from-least : weight v ≤ weights_from c weight m g.count
  weights_from-least =
      let h : sum_below (λ _. 0) g.count + weight v ≤ weights_from c weight m g.count =
      sum_below-more (λ _. 0) (λ u. weight_from m (slice_get c.numbers u) (weight u)) g.count v (weight v)
      (met_below components is) (λ u _. omega arith) (omega (arith, all_here)) in
      omega (arith, h, sum_below-zero (λ _. 0) g.count (λ _. refl))

-- the total weight of the components with numbers of at least k is at most the total weight of all vertices
pub weights_from-bound : (c : ComponentsData) (weight : ℕ → ℕ) (k n : ℕ) →
    weights_from c weight k n ≤ sum_below weight n
weights_from-bound c weight k n = search (rules, sum_below-le, weight_from-bound)
