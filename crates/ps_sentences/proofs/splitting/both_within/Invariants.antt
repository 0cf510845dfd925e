use Rattle.std.proofs.Common.{vec_len}
use Rattle.ps_formula.specs.Formulas.{and_of, formula_at}
use Rattle.ps_sentences.proofs.SplitLemmas.{AreAround}
use Rattle.ps_sentences.specs.Inner.Layers.{within}
use Rattle.ps_sentences.specs.Tables.{IsGrownTable}
use Rattle.ps_sentences.proofs.splitting.both_within.Given as goal

abbrev pub invariant-loop-layer : goal.invariant-loop-layer
invariant-loop-layer l = record {
  grows : IsGrownTable l.fn.table l.table;
  are : AreAround (within l.fn.table l.fn.layers.items
      (and_of (formula_at l.fn.table l.fn.first) (formula_at l.fn.table l.fn.second)))
      l.table l.layers.items l.first l.second;
}

abbrev pub decreases-loop-layer : goal.decreases-loop-layer
decreases-loop-layer l = vec_len l.layers
