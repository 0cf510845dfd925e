use Rattle.ps_cone.proofs.MaskRuns.{is_mask, lasso_of_mask, run_of_mask, run_of_masked}
use Rattle.ps_cone.proofs.laws.mask_runs_alike.Goals as goal

pub returns : goal.returns
returns c = record {
  circuit = is_mask;
  whole = run_of_mask;
  mask = run_of_masked;
  lasso = lasso_of_mask;
}
