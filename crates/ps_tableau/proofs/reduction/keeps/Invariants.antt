use Rattle.std.proofs.Common.{◌<◌, length}
use Rattle.ps_formula.specs.NormalForms.{normal_formula_at}
use Rattle.ps_tableau.specs.Covers.{Brings}
use Rattle.ps_tableau.specs.Inner.Reduction.{IsFormulaAt}
use Rattle.ps_tableau.proofs.reduction.keeps.Given as goal

abbrev pub invariant-loop-kept : goal.invariant-loop-kept
invariant-loop-kept l = record {
  within : l.kept < length l.formulas;
  brings : Brings (IsFormulaAt l.formulas l.fn.from) (normal_formula_at l.formulas l.kept);
}

abbrev pub decreases-loop-kept : goal.decreases-loop-kept
decreases-loop-kept l = l.kept
