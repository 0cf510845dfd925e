use Rattle.ps_tableau_product.proofs.FairProducts.GraphLassos.{lasso_of_cycle}
use Rattle.ps_tableau_product.specs.ProductGraphs.{edges_in}
use Rattle.ps_tableau_product.specs.Products.{start_vertex}
use Rattle.ps_models.proofs.JudgedCircuits.WinningLemmas.{wins_without_cycle}
use Rattle.ps_models.proofs.laws.fair_cycle_decides.Goals as goal

pub returns : goal.returns
returns c = record {
  loses = λ order role f circuit t state p stem lap is_circuit symbols in_time is_for is_graph cycle leads.
      c.fair_lasso_decides.ensures.loses order role f circuit t state (edges_in p stem) (edges_in p lap) is_circuit
      symbols in_time is_for
      (lasso_of_cycle f.names circuit t (start_vertex circuit state) p is_graph stem lap cycle leads);
  wins = λ order role f circuit t state p distinct is_circuit symbols in_time is_for is_graph none.
      wins_without_cycle order role f circuit t state p distinct is_circuit
      (c.circuit_has_one_values.ensures circuit is_circuit) symbols in_time is_for is_graph none;
}
