-- The product of an automaton and a tableau, as it is stored: for each vertex its edges, each with a letter, a priority
-- and a cover.
-- - `joint_graph g`, `joint_marks g`: the graph, and the marks of its edges
-- - `capped_graph g d`, `marks_at g d`: the graph without edges of priorities greater than d, and its marks
-- - `IsJointOf a read few f g`: g is the product with a tableau of the formula f
use Rattle.std.specs.Prelude.{◌≡◌, ◌<◌, ℕ, List, [], Some, Vec, length, map, not, slice_get, slice_index}
use Rattle.std.specs.Prelude.{slice_index_or}
use Rattle.std.specs.Global.{Global}
use Rattle.ps_components.specs.Graphs.{Digraph, SameOrWay}
use Rattle.ps_fairness.specs.Marks.{Marks}
use Rattle.ps_fairness.specs.declared.edge.Edge.{Edge}
use Rattle.ps_formula.specs.Formulas.{Formula}
use Rattle.ps_tableau.specs.Boards.{IsBoard, IsEdgeOf, cover_of}
use Rattle.ps_tableau.specs.Runs.{Tableau}
use Rattle.ps_tableau.specs.declared.board.Board.{Board}
use Rattle.ps_tableau.specs.declared.edge.Edge as tableau
use Rattle.ps_automaton.specs.Autos.{Auto}
use Rattle.ps_tableau_product.specs.Graphs.{is_postponed, graph_of_rows}
use Rattle.ps_tableau_product.specs.Joints.{IsJointProduct, JointProduct, JointStep, JointVertex, capped, capped_marks}
use Rattle.ps_tableau_product.specs.Products.{IsTableauFor}
use Rattle.ps_tableau_product.specs.declared.joint.JointEdge.{JointEdge}

pub record JointData : Type 0 where
  pub board : Board
  pub rows : List (List JointEdge)

abbrev pub stored_joint : Board → List (Vec JointEdge Global) → JointData
stored_joint board rows = record { board = board; rows = map (λ row. row.items) rows }

abbrev pub joint_row : List (List JointEdge) → ℕ → List JointEdge
joint_row rows v = slice_index_or rows v []

abbrev pub nowhere : tableau.Edge
nowhere = record { guard = 0; next = 0; postponed = 0 }

abbrev pub no_joint : JointEdge
no_joint = record { to = 0; letter = 0; priority = 0; cover = nowhere }

abbrev pub joint_edge : List (List JointEdge) → ℕ → ℕ → JointEdge
joint_edge rows v k = slice_index_or (joint_row rows v) k no_joint

abbrev pub step_in : Board → JointEdge → JointStep
step_in b x = record { letter = x.letter; priority = x.priority; cover = cover_of b x.cover }

abbrev pub joint_graph : JointData → Digraph
joint_graph g = graph_of_rows (λ (x : JointEdge). x.to) g.rows

-- an edge bears the mark of each until that its cover does not postpone
abbrev pub joint_marks : JointData → Marks
joint_marks g = record {
  count = length g.board.untils.items;
  has = λ v k mark.
      not (is_postponed g.board (joint_edge g.rows v k).cover (slice_index g.board.untils.items mark));
}

abbrev pub letter_along : JointData → Edge → ℕ
letter_along g e = (joint_edge g.rows e.vertex e.slot).letter

abbrev pub joint_product : JointData → (ℕ → JointVertex) → JointProduct
joint_product g vertex = record {
  graph = joint_graph g;
  marks = joint_marks g;
  vertex = vertex;
  edge = λ v k. step_in g.board (joint_edge g.rows v k);
}

abbrev pub no_joint_vertex : ℕ → JointVertex
no_joint_vertex v = record { own = 0; state = 0 }

abbrev pub capped_graph : JointData → ℕ → Digraph
capped_graph g d = capped (joint_product g no_joint_vertex) d

abbrev pub marks_at : JointData → ℕ → Marks
marks_at g d = capped_marks (joint_product g no_joint_vertex) d

abbrev pub AllJoined : JointData → Type 0
AllJoined g = (v : ℕ) → v < length g.rows → SameOrWay (joint_graph g) 0 v

-- each edge leads to a vertex, and has a cover of the board; each vertex is reached from the first
pub record IsJointStored (g : JointData) : Type 0 where
  pub board_is : IsBoard g.board
  pub stays : (v k : ℕ) (x : JointEdge) → slice_get (joint_row g.rows v) k ≡ Some x → x.to < length g.rows
  pub held : (v k : ℕ) (x : JointEdge) → slice_get (joint_row g.rows v) k ≡ Some x → IsEdgeOf g.board x.cover
  pub joined : AllJoined g

-- the edge's vertex is one of the graph, and has the edge's slot
pub record IsJointSlot (g : JointData) (e : Edge) : Type 0 where
  pub vertex : e.vertex < length g.rows
  pub slot : e.slot < length (joint_row g.rows e.vertex)

-- the stored graph is the product of the automaton and a tableau of the formula
pub record IsJointOf (a : Auto) (read : ℕ → ℕ) (few : ℕ) (f : Formula) (g : JointData) : Type 0 where
  pub tableau_is : Tableau
  pub is_for : IsTableauFor tableau_is 0 f
  pub vertex : ℕ → JointVertex
  pub is_product : IsJointProduct a read few tableau_is (joint_product g vertex)
