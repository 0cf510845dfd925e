-- A fair cycle of a graph that is the product, with a walk to it from the start, is a fair lasso of the product.
use Rattle.std.proofs.Common.{ℕ, zero, suc, ◌<◌, List, [], ◌∷◌, length, get_or}
use Rattle.std.proofs.Common.{refl, sym, ap, subst, ◌∙◌, arith}
use Rattle.std.specs.Prelude.{Contains}
use Rattle.std.proofs.lemmas.List.{get_or-map, length-map}
use Rattle.std.proofs.lemmas.Option.{get_or_from_slice_get, slice_get_read, slice_get_within}
use Rattle.ps_fairness.specs.Marks.{IsEdge, IsFairCycle, Leads}
use Rattle.ps_fairness.specs.declared.edge.Edge.{Edge}
use Rattle.ps_formula.specs.NormalForms.{NormalFormula}
use Rattle.ps_tableau.specs.Runs.{Tableau}
use Rattle.ps_circuit.specs.Circuits.{CircuitData}
use Rattle.ps_tableau_product.specs.Products.{BearsMark, IsFairLasso, IsModelWalk, ModelVertex}
use Rattle.ps_tableau_product.specs.ProductGraphs.{IsProductGraph, ProductGraph, edge_at, edges_in}

module _ (names : List (List ℕ)) (c : CircuitData) (t : Tableau) (start : ModelVertex) (p : ProductGraph)
    (is_graph : IsProductGraph names c t start p) where
  leads_along : (v w : ℕ) (es : List Edge) → Leads p.graph es v w →
      IsModelWalk names c t (p.vertex v) (edges_in p es) (p.vertex w)
  leads_along v w [] leads = ap p.vertex leads
  leads_along v w (e ∷ es) (at, rest) =
      let u = rest.0 in
      let stands = is_graph.sound e u rest.1 in
      (p.vertex u, stands.begins ∙ ap p.vertex at, stands.is_edge, leads_along u w es rest.2)

  edge_of_walk : (v w : ℕ) (es : List Edge) (k : ℕ) (d : Edge) → Leads p.graph es v w → k < length es →
      (u : ℕ) × IsEdge p.graph (get_or es k d) u
  edge_of_walk v w [] k d leads low = absurd (omega arith)
  edge_of_walk v w (e ∷ es) zero d (at, rest) low = (rest.0, rest.1)
  edge_of_walk v w (e ∷ es) (suc k) d (at, rest) low = edge_of_walk rest.0 w es k d rest.2 (omega arith)

  module _ (stem lap : List Edge) (cycle : IsFairCycle p.graph p.marks lap)
      (leads : Leads p.graph stem 0 cycle.start) where
    bears : (until : NormalFormula) → Contains t.untils until → BearsMark (edges_in p lap) until
    bears until known =
        let k = known.0 in
        let low = known.1 in
        let many = is_graph.one_each in
        let on = cycle.each k (omega arith) in
        let within = slice_get_within lap on.at on.edge on.is in
        let same = get_or_from_slice_get lap on.at on.edge on.edge on.is in
        let edge = edge_of_walk cycle.start cycle.start lap on.at on.edge cycle.returns within in
        let here : IsEdge p.graph on.edge edge.0 = subst (λ (e : Edge). IsEdge p.graph e edge.0) same edge.1 in
        let there = slice_get_read t.untils (length t.untils) k until refl low (sym known.2) in (
          edge_at p on.edge,
          (
            on.at,
            omega (arith, length-map lap (edge_at p)),
            get_or-map (edge_at p) lap on.at on.edge (edge_at p on.edge) within ∙ ap (edge_at p) same,
          ),
          (is_graph.marked on.edge edge.0 k until here there).0 on.has,
        )

    pub lasso_of_cycle : IsFairLasso names c t start (edges_in p stem) (edges_in p lap)
    lasso_of_cycle = record {
      some = omega (arith, length-map lap (edge_at p), cycle.some);
      back = p.vertex cycle.start;
      goes_there = subst (λ (v : ModelVertex). IsModelWalk names c t v (edges_in p stem) (p.vertex cycle.start))
          is_graph.first (leads_along 0 cycle.start stem leads);
      comes_back = leads_along cycle.start cycle.start lap cycle.returns;
      each = bears;
    }
