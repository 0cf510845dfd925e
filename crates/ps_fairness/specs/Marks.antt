-- Marks on the edges of a graph, and closed walks on which each mark occurs.
-- - `IsEdge g e w`: e is an edge of the graph, and leads to the vertex w
-- - `Leads g walk v w`: the edges of the walk lead from v to w, each to the vertex of the next one
-- - `IsFairCycle g marks walk`: the walk has one or more edges, returns to its start, and has each mark on an edge
use Rattle.std.specs.Prelude.{◌≡◌, ℕ, ◌<◌, Bool, true, List, [], ◌∷◌, length, slice_get, Some}
use Rattle.ps_components.specs.Graphs.{Digraph}
use Rattle.ps_fairness.specs.declared.edge.Edge.{Edge}

-- the number of marks; and whether the edge in a slot of a vertex bears a mark, given the vertex, slot and mark
pub record Marks : Type 0 where
  pub count : ℕ
  pub has : ℕ → ℕ → ℕ → Bool

pub record IsEdge (g : Digraph) (e : Edge) (w : ℕ) : Type 0 where
  pub from : e.vertex < g.count
  pub at : e.slot < g.degree e.vertex
  pub target : g.target e.vertex e.slot ≡ Some w

abbrev pub Leads : Digraph → List Edge → ℕ → ℕ → Type 0
Leads g [] v w = v ≡ w
Leads g (e ∷ es) v w = (e.vertex ≡ v) × ((u : ℕ) × IsEdge g e u × Leads g es u w)

-- one of the edges bears the mark
pub record IsMarked (marks : Marks) (edges : List Edge) (mark : ℕ) : Type 0 where
  pub at : ℕ
  pub edge : Edge
  pub is : slice_get edges at ≡ Some edge
  pub has : marks.has edge.vertex edge.slot mark ≡ true

pub record IsFairCycle (g : Digraph) (marks : Marks) (walk : List Edge) : Type 0 where
  pub some : 0 < length walk
  pub start : ℕ
  pub returns : Leads g walk start start
  pub each : (mark : ℕ) → mark < marks.count → IsMarked marks walk mark
