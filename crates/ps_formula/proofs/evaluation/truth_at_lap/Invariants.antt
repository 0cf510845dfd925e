use Rattle.std.proofs.Common.{ℕ, ◌≤◌, List, length}
use Rattle.ps_label.specs.Words.{lasso_word}
use Rattle.ps_formula.specs.Formulas.{Formula, IsOver}
use Rattle.ps_formula.specs.Inner.Truths.{HasTruths, TellsPartly}
use Rattle.ps_formula.proofs.evaluation.truth_at_lap.Given as goal

abbrev pub invariant-loop-at : goal.invariant-loop-at
invariant-loop-at l = record {
  low : length l.stem ≤ l.at;
  tells : (known : List Formula) (row : ℕ) → IsOver row l.node → HasTruths l.stem l.lap row known l.rows →
      TellsPartly known (lasso_word l.stem l.lap) l.node l.rows.width l.at l.next;
}
