use Rattle.ps_tableau_product.proofs.FairProducts.FairLassos.{satisfied, word_of}
use Rattle.ps_tableau_product.specs.Products.{edge_letters, opposed}
use Rattle.ps_models.proofs.JudgedCircuits.WinningLemmas.{lasso_of_losing, wins_without_lasso, wrong_by}
use Rattle.ps_models.proofs.JudgedCircuits.Refuting.{losing_by}
use Rattle.ps_models.proofs.laws.fair_lasso_decides.Goals as goal

pub returns : goal.returns
returns c = record {
  loses = λ order role f circuit t state stem lap is_circuit symbols in_time is_for fair.
      losing_by f is_circuit (c.circuit_has_one_values.ensures circuit is_circuit) symbols order in_time
      (word_of f.names circuit t state stem lap fair)
      (wrong_by role f (edge_letters stem) (edge_letters lap)
      (satisfied f.names circuit t state stem lap fair (opposed role f.formula) is_for));
  found = lasso_of_losing;
  wins = λ order role f circuit t state distinct is_circuit symbols in_time tableau is_for none.
      wins_without_lasso order role f circuit t state distinct is_circuit
      (c.circuit_has_one_values.ensures circuit is_circuit) symbols in_time tableau is_for none;
}
