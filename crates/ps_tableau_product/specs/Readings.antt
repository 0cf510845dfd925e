-- Walks whose edges are slots of the stored product, in which the circuit's inputs are looked up.
use Rattle.std.specs.Prelude.{◌<◌, length}
use Rattle.ps_fairness.specs.declared.edge.Edge.{Edge}
use Rattle.ps_tableau_product.specs.Graphs.{GraphData, passage_row}

-- the edge's vertex is one of the graph, and has the edge's slot
pub record IsSlotOf (g : GraphData) (e : Edge) : Type 0 where
  pub vertex : e.vertex < length g.rows
  pub slot : e.slot < length (passage_row g.rows e.vertex)
