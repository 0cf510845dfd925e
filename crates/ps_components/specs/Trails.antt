-- Trails: paths through a graph without repeated vertices, listed from their ends back to their starts.
use Rattle.std.specs.Prelude.{◌≡◌, ℕ, ◌+◌, ◌-◌, List, length, slice_get, Some}
use Rattle.ps_components.specs.Graphs.{Digraph, Link}

-- a list of distinct vertices that begins with `end` and ends with `start`, in which each vertex after the first has a
-- link to the vertex before it
pub record IsTrail (g : Digraph) (items : List ℕ) (end start : ℕ) : Type 0 where
  pub first : slice_get items 0 ≡ Some end
  pub last : slice_get items (length items - 1) ≡ Some start
  pub links : (i v w : ℕ) → slice_get items i ≡ Some v → slice_get items (i + 1) ≡ Some w → Link g w v
  pub once : (i j v : ℕ) → slice_get items i ≡ Some v → slice_get items j ≡ Some v → i ≡ j
