-- Edges within a strongly connected component, and walks along them. Only private contracts use these definitions.
use Rattle.std.specs.Prelude.{◌≡◌, ℕ, ◌+◌, ◌<◌, ◌++◌, ◌==◌, Bool, true, false, List, length, slice_get, slice_index_or}
use Rattle.std.specs.Prelude.{Option, None, Some, Vec, if◌then◌else◌}
use Rattle.std.specs.Global.{Global}
use Rattle.ps_components.specs.ComponentLists.{ComponentsData, IsIn}
use Rattle.ps_components.specs.Graphs.{Digraph, Link}
use Rattle.ps_fairness.specs.Marks.{Marks, IsEdge, Leads}
use Rattle.ps_fairness.specs.declared.edge.Edge.{Edge}
use Rattle.ps_fairness.specs.declared.full.Full.{Full}

-- ## The graph of a component

abbrev pub is_number : Option ℕ → ℕ → Bool
is_number None number = false
is_number (Some own) number = own == number

abbrev pub inner_target : ComponentsData → ℕ → Option ℕ → Option ℕ
inner_target c number None = None
inner_target c number (Some w) = if is_number (slice_index_or c.numbers w None) number then Some w else None

-- the graph without the links that do not lead to the component
abbrev pub inner_graph : Digraph → ComponentsData → ℕ → Digraph
inner_graph g c number = record {
  count = g.count;
  degree = g.degree;
  target = λ v slot. inner_target c number (g.target v slot);
}

-- ## Edges within a component

-- the edge leads from a vertex of the component to a vertex of the component
pub record IsInside (g : Digraph) (c : ComponentsData) (number : ℕ) (e : Edge) : Type 0 where
  pub to : ℕ
  pub edge : IsEdge g e to
  pub here : IsIn c e.vertex number
  pub there : IsIn c to number

-- the slot of the edge is a slot of the graph
pub record IsSlot (g : Digraph) (e : Edge) : Type 0 where
  pub from : e.vertex < g.count
  pub at : e.slot < g.degree e.vertex

-- the edge bears the mark, if there is a mark with this number
abbrev pub Bears : Marks → ℕ → Edge → Type 0
Bears marks mark e = mark < marks.count → marks.has e.vertex e.slot mark ≡ true

pub record IsWanted (g : Digraph) (marks : Marks) (c : ComponentsData) (number mark : ℕ) (e : Edge) : Type 0 where
  pub inside : IsInside g c number e
  pub bears : Bears marks mark e

-- one of the edges bears the mark, if there is a mark with this number
pub record IsOnOne (marks : Marks) (mark : ℕ) (edges : List Edge) : Type 0 where
  pub at : ℕ
  pub edge : Edge
  pub is : slice_get edges at ≡ Some edge
  pub bears : Bears marks mark edge

abbrev pub AllInside : Digraph → ComponentsData → ℕ → List Edge → Type 0
AllInside g c number edges = (i : ℕ) (e : Edge) → slice_get edges i ≡ Some e → IsInside g c number e

-- one or more edges within the component
pub record AreInside (g : Digraph) (c : ComponentsData) (number : ℕ) (edges : List Edge) : Type 0 where
  pub some : 0 < length edges
  pub inside : AllInside g c number edges

-- one or more edges within the component, with each mark on one of them
pub record AreFull (g : Digraph) (marks : Marks) (c : ComponentsData) (number : ℕ) (edges : List Edge) : Type 0 where
  pub inside : AreInside g c number edges
  pub each : (mark : ℕ) → mark < marks.count → IsOnOne marks mark edges

-- some mark is on no edge within the component, or the component has no edge
pub record LacksOne (g : Digraph) (marks : Marks) (c : ComponentsData) (number : ℕ) : Type 0 where
  pub mark : ℕ
  pub none : (e : Edge) → ¬ IsWanted g marks c number mark e

abbrev pub AreFullIfAny : Digraph → Marks → ComponentsData → ℕ → Option (Vec Edge Global) → Type 0
AreFullIfAny g marks c number (Some edges) = AreFull g marks c number edges.items
AreFullIfAny g marks c number None = LacksOne g marks c number

-- edges within a component with each mark on one of them, or nothing if each component lacks a mark
abbrev pub IsFullIfAny : Digraph → Marks → ComponentsData → Option Full → Type 0
IsFullIfAny g marks c (Some full) = AreFull g marks c full.number full.edges.items
IsFullIfAny g marks c None = (number : ℕ) → number < length c.order → LacksOne g marks c number

-- ## Walks

-- the walk was extended by edges that lead from v to w
pub record GoesOnTo (g : Digraph) (v w : ℕ) (old new : List Edge) : Type 0 where
  pub more : List Edge
  pub new_is : new ≡ old ++ more
  pub leads : Leads g more v w

-- a list of one or more vertices, in which each vertex after the first has a link to the vertex before it
pub record IsWalkBack (g : Digraph) (trail : List ℕ) : Type 0 where
  pub some : 0 < length trail
  pub links : (i v w : ℕ) → slice_get trail i ≡ Some v → slice_get trail (i + 1) ≡ Some w → Link g w v

-- a closed walk of one or more edges that has the given edges
pub record JoinsAll (g : Digraph) (edges walk : List Edge) : Type 0 where
  pub some : 0 < length walk
  pub start : ℕ
  pub returns : Leads g walk start start
  pub each : (i : ℕ) (e : Edge) → slice_get edges i ≡ Some e → (j : ℕ) × (slice_get walk j ≡ Some e)
