-- The product of a circuit and a tableau, as it is stored: for each vertex its edges, each with a cover and a letter.
-- - `graph_of g`, `marks_of g`: the graph, and the marks of its edges
-- - `inputs_along g e`: the inputs that the circuit reads along an edge
-- - `IsModelGraph names c f g`: g is the product with a tableau of the formula f
use Rattle.std.specs.Prelude.{◌≡◌, ℕ, ◌<◌, All, Bool, List, [], Some, length, map, not, slice_get, slice_index}
use Rattle.std.specs.Prelude.{slice_index_or, Vec}
use Rattle.std.specs.Global.{Global}
use Rattle.std.specs.Option.{option_map}
use Rattle.ps_components.specs.Graphs.{Digraph, SameOrWay}
use Rattle.ps_fairness.specs.Marks.{IsEdge, Marks}
use Rattle.ps_fairness.specs.declared.edge.Edge.{Edge}
use Rattle.ps_formula.specs.Formulas.{Formula}
use Rattle.ps_tableau.specs.Boards.{IsBoard, IsEdgeOf}
use Rattle.ps_tableau.specs.Runs.{Tableau}
use Rattle.ps_tableau.specs.Sets.{indices_in}
use Rattle.ps_tableau.specs.declared.board.Board.{Board}
use Rattle.ps_tableau.specs.declared.edge.Edge as tableau
use Rattle.ps_hoa.specs.Files.{is_among}
use Rattle.ps_circuit.specs.Circuits.{CircuitData}
use Rattle.ps_product.specs.Truths.{bits_at}
use Rattle.ps_tableau_product.specs.ProductGraphs.{IsProductGraph}
use Rattle.ps_tableau_product.specs.Products.{IsTableauFor, ModelEdge, ModelVertex, start_vertex}
use Rattle.ps_tableau_product.specs.declared.graph.Passage.{Passage}

abbrev pub graph_of_rows : {X : Type 0} → (X → ℕ) → List (List X) → Digraph
graph_of_rows to rows = record {
  count = length rows;
  degree = λ v. length (slice_index_or rows v []);
  target = λ v k. option_map to (slice_get (slice_index_or rows v []) k);
}

pub record GraphData : Type 0 where
  pub board : Board
  pub rows : List (List Passage)
  -- the propositions of the circuit's inputs
  pub propositions : List ℕ

abbrev pub stored : Board → List (Vec Passage Global) → List ℕ → GraphData
stored board rows propositions = record {
  board = board;
  rows = map (λ row. row.items) rows;
  propositions = propositions;
}

abbrev pub passage_row : List (List Passage) → ℕ → List Passage
passage_row rows v = slice_index_or rows v []

abbrev no_cover : tableau.Edge
no_cover = record { guard = 0; next = 0; postponed = 0 }

abbrev pub no_passage : Passage
no_passage = record { to = 0; letter = 0; cover = no_cover }

abbrev pub passage_at : List (List Passage) → ℕ → ℕ → Passage
passage_at rows v k = slice_index_or (passage_row rows v) k no_passage

abbrev pub graph_of : GraphData → Digraph
graph_of g = graph_of_rows (λ (x : Passage). x.to) g.rows

-- the cover postpones the until that has an index in the table of formulas
abbrev pub is_postponed : Board → tableau.Edge → ℕ → Bool
is_postponed b cover until = is_among until (indices_in b.sets cover.postponed)

-- an edge bears the mark of each until that its cover does not postpone
abbrev pub marks_of : GraphData → Marks
marks_of g = record {
  count = length g.board.untils.items;
  has = λ v k mark.
      not (is_postponed g.board (passage_at g.rows v k).cover (slice_index g.board.untils.items mark));
}

abbrev pub inputs_along : GraphData → Edge → List Bool
inputs_along g e = bits_at g.propositions (passage_at g.rows e.vertex e.slot).letter

abbrev pub AllReached : GraphData → Type 0
AllReached g = (v : ℕ) → v < length g.rows → SameOrWay (graph_of g) 0 v

-- each edge leads to a vertex, and has a cover of the board; each vertex is reached from the first
pub record IsStored (g : GraphData) : Type 0 where
  pub board_is : IsBoard g.board
  pub stays : (v k : ℕ) (x : Passage) → slice_get (passage_row g.rows v) k ≡ Some x → x.to < length g.rows
  pub held : (v k : ℕ) (x : Passage) → slice_get (passage_row g.rows v) k ≡ Some x → IsEdgeOf g.board x.cover
  pub named : All (λ p. p < 64) g.propositions
  pub reached : AllReached g

-- the stored graph is the product of the circuit and a tableau of the formula
pub record IsModelGraph (names : List (List ℕ)) (c : CircuitData) (f : Formula) (g : GraphData) : Type 0 where
  pub tableau_is : Tableau
  pub is_for : IsTableauFor tableau_is 0 f
  pub vertex : ℕ → ModelVertex
  pub edge : ℕ → ℕ → ModelEdge
  pub is_product : IsProductGraph names c tableau_is (start_vertex c 0)
      (record { graph = graph_of g; marks = marks_of g; vertex = vertex; edge = edge })
  pub reads : (e : Edge) (w : ℕ) → IsEdge (graph_of g) e w → (edge e.vertex e.slot).moment.inputs ≡ inputs_along g e
