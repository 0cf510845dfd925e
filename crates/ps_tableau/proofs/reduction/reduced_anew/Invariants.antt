use Rattle.std.proofs.Common.{ℕ, drop}
use Rattle.std.specs.List.{Contains}
use Rattle.ps_formula.specs.NormalForms.{normal_formula_at}
use Rattle.ps_tableau.specs.Covers.{Brings}
use Rattle.ps_tableau.specs.Inner.Reduction.{IsOneOfBoth}
use Rattle.ps_tableau.specs.Sets.{indices_in}
use Rattle.ps_tableau.proofs.reduction.reduced_anew.Given as goal

abbrev pub invariant-loop-place : goal.invariant-loop-place
invariant-loop-place l = record {
  fewer : (k : ℕ) → Contains l.kept.items k → Contains (indices_in l.fn.board.sets l.fn.set) k;
  brings : (k : ℕ) → Contains (indices_in l.fn.board.sets l.fn.set) k →
      Brings (IsOneOfBoth l.fn.board.formulas l.kept.items (drop l.place l.members.items))
      (normal_formula_at l.fn.board.formulas k);
}
