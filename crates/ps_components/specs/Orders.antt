-- Topological orders of numbers by a relation, and vertices with a link into their own component.
use Rattle.std.specs.Prelude.{◌≡◌, ℕ, ◌<◌, ◌≤◌, List, slice_get, Some}
use Rattle.ps_components.specs.Graphs.{Digraph, Link, Way}
use Rattle.ps_components.specs.ComponentLists.{ComponentsData, IsIn}
use Rattle.ps_components.specs.declared.arranging.Arrangement.{Arrangement}
use Rattle.ps_components.specs.declared.arranging.Arrangement.TheVariants.{Order, Cyclic}

-- the list has each number less than n once; if i is related to j by R, then j comes before i
pub record IsOrder (R : ℕ → ℕ → Type 0) (n : ℕ) (order : List ℕ) : Type 0 where
  pub within : (k i : ℕ) → slice_get order k ≡ Some i → i < n
  pub once : (k l i : ℕ) → slice_get order k ≡ Some i → slice_get order l ≡ Some i → k ≡ l
  pub each : (i : ℕ) → i < n → (k : ℕ) × (slice_get order k ≡ Some i)
  pub behind : (k l i j : ℕ) → slice_get order k ≡ Some i → slice_get order l ≡ Some j → R i j → l < k

-- i is the smallest number on a cycle of the relation R
pub record IsFirstOnCycle (R : ℕ → ℕ → Type 0) (i : ℕ) : Type 0 where
  pub cyclic : Way R i i
  pub first : (j : ℕ) → Way R j j → i ≤ j

-- the result is a topological order if the graph has no cycle, and otherwise the smallest vertex on a cycle
abbrev pub IsArrangement : Digraph → Arrangement → Type 0
IsArrangement g (Order order) = IsOrder (Link g) g.count order.items × ((i : ℕ) → ¬ Way (Link g) i i)
IsArrangement g (Cyclic i) = IsFirstOnCycle (Link g) i

-- the vertex i has a link into its own component
pub record IsKnot (g : Digraph) (c : ComponentsData) (i : ℕ) : Type 0 where
  pub to : ℕ
  pub link : Link g i to
  pub number : ℕ
  pub here : IsIn c i number
  pub there : IsIn c to number
