use Rattle.ps_cone.proofs.PartRuns.{lasso_of_part, resets_of_part, run_of_part, run_of_whole}
use Rattle.ps_cone.proofs.laws.part_runs_alike.Goals as goal

pub returns : goal.returns
returns c = record {
  resets = λ d kept part p. resets_of_part p;
  whole = λ d kept part from moments to p. run_of_part p from moments to;
  part = λ d kept part from moments to is p. run_of_whole p (c.circuit_has_one_values.ensures d is)
      (c.circuit_has_one_values.ensures part p.is_circuit) from moments to;
  lasso = λ d kept part stem lap p. lasso_of_part p stem lap;
}
