-- A pass over the finished vertices, from the last to the first, raises the value of each component as far as the links
-- require. The value of each component is therefore final before it is used.
use Rattle.std.proofs.Common.{rules, ◌≡◌, ℕ, ◌+◌, ◌<◌, ◌≤◌, ◌∙◌, List, length, inl, inr, ap, arith, refl}
use Rattle.std.proofs.Common.{Option, None, Some}
use Rattle.std.specs.Prelude.{slice_get, slice_index, slice_set}
use Rattle.std.proofs.lemmas.Bool.{cases_eq}
use Rattle.std.proofs.lemmas.List.{length-set}
use Rattle.ps_components.specs.Graphs.{Digraph, Link}
use Rattle.ps_components.specs.ComponentLists.{ComponentsData, AreComponents, AreMet, IsIn}
use Rattle.ps_measure.specs.Sums.{sum_below}
use Rattle.ps_measure.specs.Inner.Columns.{AreCounts, AreRoots, weights_from, IsColumn, AreRaised, IsPassed, inside}
use Rattle.ps_measure.specs.Inner.Columns.{across}
use Rattle.ps_measure.specs.Inner.Columns.{GrowsBelow, ArePassedFrom, value_at, value_of, AreLeast}
use Rattle.ps_measure.proofs.RaisedCounts.Growing.{one_count, weights_from-more, weights_from-least, weights_from-bound}
use Rattle.ps_measure.proofs.CountRows.Writing.{written}

-- ## Growing values

pub grows_on : {first second third : List ℕ} {place : ℕ} → GrowsBelow first second place →
    GrowsBelow second third place → GrowsBelow first third place
grows_on one other = search rules

pub raised_before : (c : ComponentsData) {old new : List ℕ} (roots : List ℕ) {place : ℕ} → GrowsBelow old new place →
    AreRaised c old roots → AreRaised c new roots
raised_before c roots grown raised i v k at is = omega (arith, raised i v k at is, grown.grows k)

-- let values of components before index `place` grow: if the component of a link's source has a number of at least
-- `place`, the values still meet the condition of the link (`IsPassed`)
pub passed_on : {weight : ℕ → ℕ} {c : ComponentsData} {old new : List ℕ} {w v k : ℕ} → IsIn c w k → {place : ℕ} →
    place ≤ k → GrowsBelow old new place → IsPassed weight c old w v → IsPassed weight c new w v
passed_on is later grown (inside n from to light) = inside n from to light
passed_on {k = k} is later grown (across n m from to falls enough) =
    let number : n ≡ k = cc in
    across n m from to falls (omega (arith, grown.same n (omega arith), grown.grows m))

-- ## A column with one value raised

module _ {g : Digraph} {weight : ℕ → ℕ} {c : ComponentsData} {values : List ℕ} (components : AreComponents g c)
    (column : IsColumn g weight c values) (v : ℕ) {m : ℕ} (to : IsIn c v m) where
  pub number_within : m < length values
  number_within = omega (arith, components.below v m to, column.each)

  -- if x is a lower bound for the counts of v, and at most the total weight of v's component and all later ones, the
  -- values stay correct (`IsColumn`) when x replaces the value of v's component
  set_column : (x : ℕ) → ((d : ℕ → ℕ) → AreCounts g weight d → x ≤ d v) → x ≤ weights_from c weight m g.count →
      IsColumn g weight c (slice_set values m x)
  set_column x least bounded = record {
    each = length-set values m x ∙ column.each;
    least = λ d counts u n at. elim (written values m x n number_within) [
      | inl new ↦ (let number : IsIn c u m = rw new.0 at at in
          omega (arith, new.1, least d counts, one_count weight d components counts to number))
      | inr old ↦ omega (arith, old.1, column.least d counts u n at)
    ];
    bounded = search (rules, written, number_within);
  }

  -- if v is a root (a vertex of weight 1 to which some link leads), raising the value of its component to 1 keeps the
  -- values of all components correct
  pub root_column : {w : ℕ} → Link g w v → weight v ≡ 1 → IsColumn g weight c (slice_set values m 1)
  root_column {w} link heavy = set_column 1 (λ d counts. omega (arith, counts w v link))
      (omega (arith, weights_from-least weight components v to))

  -- if a later component has a link to v, the values stay correct (`IsColumn`) when the later component's value plus
  -- the weight of v replaces the value of v's component
  module _ {k : ℕ} (falls : m < k) where
    sum_bounded : slice_index values k + weight v ≤ weights_from c weight m g.count
    sum_bounded = omega (arith, column.bounded k, weights_from-more weight components v to falls)

    pub raise_fits : slice_index values k + weight v ≤ sum_below weight g.count
    raise_fits = omega (arith, sum_bounded, weights_from-bound c weight m g.count)

    pub raise_column : {w : ℕ} → Link g w v → IsIn c w k →
        IsColumn g weight c (slice_set values m (slice_index values k + weight v))
    raise_column {w} link from = set_column (slice_index values k + weight v)
        (λ d counts. omega (arith, column.least d counts w k from, counts w v link)) sum_bounded

    pub passed_by_raise : {w : ℕ} → IsIn c w k →
        IsPassed weight c (slice_set values m (slice_index values k + weight v)) w v
    passed_by_raise from =
        let at = written values m (slice_index values k + weight v) m number_within in
        let other = written values m (slice_index values k + weight v) k number_within in
        across k m from to falls (omega (arith, at, other))

-- ## The order

-- once the vertex at index `place` of the list of finished vertices is processed, the values also meet the conditions
-- (`IsPassed`) of the links that leave this vertex
pub passed_from_here : {g : Digraph} (weight : ℕ → ℕ) {c : ComponentsData} {old new : List ℕ} (place : ℕ) {w k : ℕ} →
    AreComponents g c → slice_get c.order place ≡ Some w → IsIn c w k → GrowsBelow old new k →
    ArePassedFrom g weight c old (place + 1) → ((v : ℕ) → Link g w v → IsPassed weight c new w v) →
    ArePassedFrom g weight c new place
passed_from_here weight place {w} {k} components at is grown before here j w' v later at' link =
    elim (cases_eq j place) [
      | inl same ↦ (let one : w' ≡ w = cc in rw one (here v (rw one at link)))
      | inr apart ↦
          let number = components.ordered j w' at' in
          let rises = components.rises place j w w' k number.0 (omega arith) at at' is number.1 in
          passed_on number.1 rises grown (before j w' v (omega arith) at' link)
    ]

-- ## The end

-- if the values of components meet the conditions of all links (`IsPassed`), they are the least counts of the
-- components' vertices
module _ {g : Digraph} {weight : ℕ → ℕ} {c : ComponentsData} {values roots : List ℕ}
    (light : (v : ℕ) → weight v ≤ 1) (components : AreComponents g c) (root : AreRoots g weight roots)
    (met : AreMet g roots c) (column : IsColumn g weight c values) (raised : AreRaised c values roots)
    (passed : ArePassedFrom g weight c values 0) where
  value_in : (v k : ℕ) → IsIn c v k → value_of c values v ≡ slice_index values k
  value_in v k is = ap (value_at values) is

  -- the weight of a link's target is at most the target's value, even if the search did not reach the link's source
  from_unmet : (w v : ℕ) → Link g w v → weight v ≤ value_of c values v
  from_unmet w v link = elim (cases_eq (weight v) 1) [
    | inl heavy ↦
        let at = root.complete w v link heavy in
        let number = (met v).1 (at.0, v, at.1, inl refl) in
        omega (arith, heavy, raised at.0 v number.0 at.1 number.1, value_in v number.0 number.1)
    | inr none ↦ omega (arith, light v)
  ]

  from_passed : (w v : ℕ) → IsPassed weight c values w v → value_of c values w + weight v ≤ value_of c values v
  from_passed w v h = search (rules, value_in)

  at_link : (w v : ℕ) → Link g w v → (o : Option (Option ℕ)) → slice_get c.numbers w ≡ o →
      value_at values o + weight v ≤ value_of c values v
  at_link w v link None is = omega (arith, from_unmet w v link)
  at_link w v link (Some None) is = omega (arith, from_unmet w v link)
  at_link w v link (Some (Some k)) is =
      let at = components.listed w k is in
      omega (arith, value_in w k is, from_passed w v (passed at.0 w v (omega arith) at.1 link))

  at_vertex : (other : ℕ → ℕ) → AreCounts g weight other → (v : ℕ) (o : Option (Option ℕ)) →
      slice_get c.numbers v ≡ o → value_at values o ≤ other v
  at_vertex other counts v None is = omega arith
  at_vertex other counts v (Some None) is = omega arith
  at_vertex other counts v (Some (Some k)) is = column.least other counts v k is

  bound : (o : Option (Option ℕ)) → value_at values o ≤ sum_below weight g.count
  bound o = search (rules, weights_from-bound)

  pub least_counts : AreLeast g weight (value_of c values)
  least_counts = record {
    counts = λ w v link. at_link w v link (slice_get c.numbers w) refl;
    least = λ other counts v. at_vertex other counts v (slice_get c.numbers v) refl;
    bounded = λ v. bound (slice_get c.numbers v);
  }
