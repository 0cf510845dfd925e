-- Directed graphs of numbered vertices, and ways, which are paths along the links (edges) of a graph.
use Rattle.std.specs.Prelude.{◌≡◌, ℕ, ◌<◌, ◌⊎◌, List, slice_get, Option, Some}

-- a graph with the vertices 0 .. count - 1; the vertex v has `degree v` numbered slots, each of which holds the target
-- of a link or is empty
pub record Digraph : Type 0 where
  pub count : ℕ
  pub degree : ℕ → ℕ
  pub target : ℕ → ℕ → Option ℕ

-- the graph has a link from v to w: some slot of v has the target w
pub record Link (g : Digraph) (v w : ℕ) : Type 0 where
  pub from : v < g.count
  pub place : ℕ
  pub at : place < g.degree v
  pub target : g.target v place ≡ Some w

-- each link leads to a vertex of the graph
abbrev pub LinksStayWithin : Digraph → Type 0
LinksStayWithin g = (v w : ℕ) → Link g v w → w < g.count

-- a way: a path of one or more steps of the relation R, from one number to another
pub data Way (R : ℕ → ℕ → Type 0) : ℕ → ℕ → Type 0 where
  last : {i j : ℕ} → R i j → Way R i j
  next : {i j k : ℕ} → R i j → Way R j k → Way R i k

-- w is v, or w can be reached from v along links
abbrev pub SameOrWay : Digraph → ℕ → ℕ → Type 0
SameOrWay g v w = (v ≡ w) ⊎ Way (Link g) v w

-- w is a vertex of the list, or is reachable from a vertex of the list
abbrev pub IsReached : Digraph → List ℕ → ℕ → Type 0
IsReached g from w = (i v : ℕ) × (slice_get from i ≡ Some v) × SameOrWay g v w
