-- Counts that grow along the links of a graph whose vertices have weights 0 or 1, computed as one value for each
-- strongly connected component.
use Rattle.std.specs.Prelude.{◌≡◌, ℕ, ◌+◌, ◌<◌, ◌≤◌, List, length, Option, None, Some, nat_le, if◌then◌else◌, slice_get}
use Rattle.std.specs.Prelude.{slice_index}
use Rattle.ps_components.specs.Graphs.{Digraph, Link}
use Rattle.ps_components.specs.ComponentLists.{ComponentsData, AreComponents, IsIn}
use Rattle.ps_measure.specs.Sums.{sum_below}

-- numbers that grow along each link by at least the weight of the link's target
abbrev pub AreCounts : Digraph → (ℕ → ℕ) → (ℕ → ℕ) → Type 0
AreCounts g weight d = (w v : ℕ) → Link g w v → d w + weight v ≤ d v

-- the list `roots` has exactly the vertices of weight 1 to which some link leads
pub record AreRoots (g : Digraph) (weight : ℕ → ℕ) (roots : List ℕ) : Type 0 where
  pub sound : (i v : ℕ) → slice_get roots i ≡ Some v → (w : ℕ) × Link g w v × (weight v ≡ 1)
  pub complete : (w v : ℕ) → Link g w v → weight v ≡ 1 → (i : ℕ) × (slice_get roots i ≡ Some v)

-- the weight x of a vertex if the vertex has a component whose number is at least k, and otherwise 0
abbrev pub weight_from : ℕ → Option (Option ℕ) → ℕ → ℕ
weight_from k None x = 0
weight_from k (Some None) x = 0
weight_from k (Some (Some m)) x = if nat_le k m then x else 0

-- the sum of the weights of the vertices less than n whose components have numbers of at least k
abbrev pub weights_from : ComponentsData → (ℕ → ℕ) → ℕ → ℕ → ℕ
weights_from c weight k n = sum_below (λ v. weight_from k (slice_get c.numbers v) (weight v)) n

-- a value for each component: a lower bound for the counts of the component's vertices, and at most the total weight of
-- the vertices in this component and later ones
pub record IsColumn (g : Digraph) (weight : ℕ → ℕ) (c : ComponentsData) (values : List ℕ) : Type 0 where
  pub each : length values ≡ length c.order
  pub least : (d : ℕ → ℕ) → AreCounts g weight d → (v k : ℕ) → IsIn c v k → slice_index values k ≤ d v
  pub bounded : (k : ℕ) → slice_index values k ≤ weights_from c weight k g.count

-- the components of the given vertices have values of at least 1
abbrev pub AreRaised : ComponentsData → List ℕ → List ℕ → Type 0
AreRaised c values roots = (i v k : ℕ) → slice_get roots i ≡ Some v → IsIn c v k → 1 ≤ slice_index values k

-- the strongly connected components of a graph, with a correct value (`IsColumn`) for each component
pub record IsCounting (g : Digraph) (weight : ℕ → ℕ) (c : ComponentsData) (values : List ℕ) : Type 0 where
  pub components : AreComponents g c
  pub column : IsColumn g weight c values

-- The condition that the link from w to v imposes on the values of components. If w and v are in the same component, v
-- must have weight 0. If they are in different components, v's component must be the earlier one. The value of v's
-- component must then be at least the value of w's component plus the weight of v.
pub data IsPassed (weight : ℕ → ℕ) (c : ComponentsData) (values : List ℕ) (w v : ℕ) : Type 0 where
  inside : (k : ℕ) → IsIn c w k → IsIn c v k → weight v ≡ 0 → IsPassed weight c values w v
  across : (k m : ℕ) → IsIn c w k → IsIn c v m → m < k → slice_index values k + weight v ≤ slice_index values m →
      IsPassed weight c values w v

-- no value decreases, and the values from index `place` on do not change
pub record GrowsBelow (old new : List ℕ) (place : ℕ) : Type 0 where
  pub grows : (k : ℕ) → slice_index old k ≤ slice_index new k
  pub same : (k : ℕ) → place ≤ k → slice_index new k ≡ slice_index old k

-- the component of the vertex `from` has the given number, and the values of all components are correct
pub record IsTurn (g : Digraph) (weight : ℕ → ℕ) (c : ComponentsData) (values : List ℕ) (from number : ℕ) : Type 0
  where
    pub counting : IsCounting g weight c values
    pub number_is : IsIn c from number

-- the components are unchanged; the new values are correct, are not less than the old values, and differ from the old
-- values only before index `place`
pub record IsRaised (g : Digraph) (weight : ℕ → ℕ) (old new : ComponentsData) (before after : List ℕ) (place : ℕ) :
    Type 0 where
  pub counting : IsCounting g weight new after
  pub components : new ≡ old
  pub grows : GrowsBelow before after place

-- the values meet the condition (`IsPassed`) of each link that leaves a vertex at index i or later in the list of
-- finished vertices
abbrev pub ArePassedFrom : Digraph → (ℕ → ℕ) → ComponentsData → List ℕ → ℕ → Type 0
ArePassedFrom g weight c values i =
    (j w v : ℕ) → i ≤ j → slice_get c.order j ≡ Some w → Link g w v → IsPassed weight c values w v

-- a link within a component to a vertex of weight 1: such a link lies on a cycle, around which no numbers can grow as
-- `AreCounts` requires
pub record IsLost (g : Digraph) (weight : ℕ → ℕ) (c : ComponentsData) (w v : ℕ) : Type 0 where
  pub link : Link g w v
  pub number : ℕ
  pub from : IsIn c w number
  pub to : IsIn c v number
  pub heavy : weight v ≡ 1

-- the value of a vertex's component, or 0 if the vertex has no component
abbrev pub value_at : List ℕ → Option (Option ℕ) → ℕ
value_at values None = 0
value_at values (Some None) = 0
value_at values (Some (Some k)) = slice_index values k

abbrev pub value_of : ComponentsData → List ℕ → ℕ → ℕ
value_of c values v = value_at values (slice_get c.numbers v)

-- the numbers grow along the links as `AreCounts` states, are the least numbers that do so, and are at most the sum of
-- all weights
pub record AreLeast (g : Digraph) (weight : ℕ → ℕ) (d : ℕ → ℕ) : Type 0 where
  pub counts : AreCounts g weight d
  pub least : (other : ℕ → ℕ) → AreCounts g weight other → (v : ℕ) → d v ≤ other v
  pub bounded : (v : ℕ) → d v ≤ sum_below weight g.count
