use Rattle.std.proofs.Common.{◌<◌, length}
use Rattle.ps_formula.specs.NormalForms.{normal_formula_at}
use Rattle.ps_tableau.specs.Covers.{Brings}
use Rattle.ps_tableau.specs.Inner.Reduction.{IsFormulaAt}
use Rattle.ps_tableau.proofs.reduction.brings.Given as goal

abbrev pub invariant-ends : goal.invariant-ends
invariant-ends l = record {
  within : l.end < length l.formulas;
  back : Brings (IsFormulaAt l.formulas l.from) (normal_formula_at l.formulas l.end) →
      Brings (IsFormulaAt l.formulas l.from) (normal_formula_at l.formulas l.fn.to);
}

abbrev pub decreases-ends : goal.decreases-ends
decreases-ends l = l.end
