use Rattle.std.proofs.Common.{◌≤◌}
use Rattle.ps_formula.specs.Formulas.{formula_at}
use Rattle.ps_sentences.proofs.SplitLemmas.{IsAround}
use Rattle.ps_sentences.specs.Tables.{IsGrownTable}
use Rattle.ps_sentences.proofs.splitting.split_of.Given as goal

abbrev pub invariant-loop-steps : goal.invariant-loop-steps
invariant-loop-steps l = record {
  grows : IsGrownTable l.fn.table l.table;
  is : IsAround (formula_at l.fn.table l.fn.index) l.table l.layers.items l.inner;
  fewer : l.steps ≤ l.fn.steps;
}

abbrev pub decreases-loop-steps : goal.decreases-loop-steps
decreases-loop-steps l = l.steps
