use Rattle.std.proofs.Common.{◌≡◌, ℕ, ◌<◌, ◌≤◌, List}
use Rattle.std.specs.Bool.{Decides}
use Rattle.ps_label.specs.Words.{lasso_word}
use Rattle.ps_formula.specs.Formulas.{Formula, formula_of}
use Rattle.ps_formula.specs.Satisfaction.{Satisfies}
use Rattle.ps_formula.specs.Inner.Rows.{truth_in}
use Rattle.ps_formula.specs.Inner.Truths.{HasTruths, IsForLasso, TellsLater}
use Rattle.ps_formula.proofs.evaluation.fill_row.Given as goal

abbrev pub invariant-loop-at : goal.invariant-loop-at
invariant-loop-at l = record {
  count : l.rows.count ≡ l.initial.rows.count;
  lasso : IsForLasso l.stem l.lap l.rows;
  truths : (known : List Formula) → HasTruths l.stem l.lap l.row known l.initial.rows →
      HasTruths l.stem l.lap l.row known l.rows;
  next : (known : List Formula) → HasTruths l.stem l.lap l.row known l.initial.rows →
      TellsLater known (lasso_word l.stem l.lap) l.node l.at l.next;
  done : (known : List Formula) → HasTruths l.stem l.lap l.row known l.initial.rows → (i : ℕ) → l.at ≤ i →
      i < l.rows.width →
      Decides (truth_in l.rows l.row i) (Satisfies (formula_of known l.node) (lasso_word l.stem l.lap) i);
}
