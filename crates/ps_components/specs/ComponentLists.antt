-- The strongly connected components of a graph: two vertices are in the same component if each can reach the other.
use Rattle.std.specs.Prelude.{◌≡◌, ℕ, ◌<◌, ◌≤◌, ◌↔◌, List, length, slice_get, Option, Some}
use Rattle.ps_components.specs.Graphs.{Digraph, Link, SameOrWay, IsReached}

-- for each vertex the number of its component, or None if the vertex was not visited; and the list of the visited
-- vertices, component by component
pub record ComponentsData : Type 0 where
  pub numbers : List (Option ℕ)
  pub order : List ℕ

-- the vertex v is in the component with the number k
abbrev pub IsIn : ComponentsData → ℕ → ℕ → Type 0
IsIn c v k = slice_get c.numbers v ≡ Some (Some k)

-- `order` lists the visited vertices, component by component, each once. The number of a component is the index in
-- `order` at which the component begins. A link of a visited vertex leads to a visited vertex, in the same component or
-- an earlier one. The vertices of a component can reach one another
pub record AreComponents (g : Digraph) (c : ComponentsData) : Type 0 where
  pub counted : length c.numbers ≡ g.count
  pub falls : (v k w : ℕ) → IsIn c v k → Link g v w → (m : ℕ) × IsIn c w m × (m ≤ k)
  pub same : (v w k : ℕ) → IsIn c v k → IsIn c w k → SameOrWay g v w
  pub below : (v k : ℕ) → IsIn c v k → k < length c.order
  pub begins : (v k : ℕ) → IsIn c v k → (u : ℕ) × (slice_get c.order k ≡ Some u) × IsIn c u k
  pub starts : (i v k : ℕ) → slice_get c.order i ≡ Some v → IsIn c v k → k ≤ i
  pub listed : (v k : ℕ) → IsIn c v k → (i : ℕ) × (slice_get c.order i ≡ Some v)
  pub ordered : (i v : ℕ) → slice_get c.order i ≡ Some v → (k : ℕ) × IsIn c v k
  pub rises : (i j v w k m : ℕ) → i < j → slice_get c.order i ≡ Some v → slice_get c.order j ≡ Some w → IsIn c v k →
      IsIn c w m → k ≤ m
  pub once : (i j v : ℕ) → slice_get c.order i ≡ Some v → slice_get c.order j ≡ Some v → i ≡ j

-- the vertices that have a component are exactly the roots (the vertices where the search starts) and the vertices
-- reachable from the roots
abbrev pub AreMet : Digraph → List ℕ → ComponentsData → Type 0
AreMet g roots c = (v : ℕ) → ((k : ℕ) × IsIn c v k) ↔ IsReached g roots v

-- each vertex of the graph was visited
abbrev pub AreAllMet : Digraph → ComponentsData → Type 0
AreAllMet g c = (v : ℕ) → v < g.count → (k : ℕ) × IsIn c v k
