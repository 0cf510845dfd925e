-- The product of a circuit and a tableau as a graph whose edges bear marks, in which fair cycles are searched. Edges of
-- the product that differ in their letters alone need only one edge of the graph.
-- - `ProductGraph`: a graph with marks, and what its vertices and edges stand for
-- - `IsProductGraph names c t start p`: p has the start as its first vertex, and edges of the product; each step from
-- one
--   of p's vertices, with a cover that serves for its letter, has an edge like it in p
use Rattle.std.specs.Prelude.{◌≡◌, ◌<◌, ◌↔◌, ℕ, Bool, Contains, List, Some, length, map, slice_get, true}
use Rattle.ps_components.specs.Graphs.{Digraph, LinksStayWithin}
use Rattle.ps_fairness.specs.Marks.{IsEdge, Marks}
use Rattle.ps_fairness.specs.declared.edge.Edge.{Edge}
use Rattle.ps_formula.specs.NormalForms.{NormalFormula}
use Rattle.ps_tableau.specs.Runs.{Tableau}
use Rattle.ps_circuit.specs.Circuits.{CircuitData}
use Rattle.ps_tableau_product.specs.Products.{IsCoveredStep, IsModelEdge, ModelEdge, ModelVertex, begins_at}

pub record ProductGraph : Type 0 where
  pub graph : Digraph
  pub marks : Marks
  pub vertex : ℕ → ModelVertex
  -- the edge in a slot of a vertex
  pub edge : ℕ → ℕ → ModelEdge

abbrev pub edge_at : ProductGraph → Edge → ModelEdge
edge_at p e = p.edge e.vertex e.slot

abbrev pub edges_in : ProductGraph → List Edge → List ModelEdge
edges_in p edges = map (edge_at p) edges

-- an edge of the graph is one of the product, between the vertices for which its ends stand
pub record IsOfProduct (names : List (List ℕ)) (c : CircuitData) (t : Tableau) (p : ProductGraph) (e : Edge) (w : ℕ) :
    Type 0 where
  pub begins : begins_at (edge_at p e) ≡ p.vertex e.vertex
  pub is_edge : IsModelEdge names c t (edge_at p e) (p.vertex w)

-- some edge from v has the same cover, and leads to the same latches
pub record HasLike (p : ProductGraph) (v : ℕ) (e : ModelEdge) (next : List Bool) : Type 0 where
  pub slot : ℕ
  pub to : ℕ
  pub is_edge : IsEdge p.graph (record { vertex = v; slot = slot }) to
  pub cover : (p.edge v slot).cover ≡ e.cover
  pub latches : (p.vertex to).latches ≡ next

pub record IsProductGraph (names : List (List ℕ)) (c : CircuitData) (t : Tableau) (start : ModelVertex)
    (p : ProductGraph) : Type 0 where
  pub some : 0 < p.graph.count
  pub first : p.vertex 0 ≡ start
  pub stays : LinksStayWithin p.graph
  pub sound : (e : Edge) (w : ℕ) → IsEdge p.graph e w → IsOfProduct names c t p e w
  pub complete : (v : ℕ) (e : ModelEdge) (latches : List Bool) → v < p.graph.count → begins_at e ≡ p.vertex v →
      IsCoveredStep names c t e latches → HasLike p v e latches
  -- the tableau's untils are the marks; an edge bears the marks of those that it does not postpone
  pub one_each : p.marks.count ≡ length t.untils
  pub marked : (e : Edge) (w mark : ℕ) (until : NormalFormula) → IsEdge p.graph e w →
      slice_get t.untils mark ≡ Some until →
      (p.marks.has e.vertex e.slot mark ≡ true) ↔ (¬ Contains (edge_at p e).cover.postponed until)
