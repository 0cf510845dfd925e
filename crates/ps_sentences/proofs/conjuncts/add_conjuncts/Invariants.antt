use Rattle.std.proofs.Common.{◌+◌, ◌*◌, ◌≤◌, vec_len}
use Rattle.ps_formula.specs.Formulas.{formula_at}
use Rattle.ps_sentences.specs.Inner.Conjuncts.{IsTaken}
use Rattle.ps_sentences.specs.Tables.{IsGrownTable}
use Rattle.ps_sentences.proofs.conjuncts.add_conjuncts.Given as goal

abbrev pub invariant-loop-index : goal.invariant-loop-index
invariant-loop-index l = record {
  grows : IsGrownTable l.fn.table l.table;
  taken : IsTaken (formula_at l.fn.table l.fn.root) l.table l.parts.items l.pending.items;
  fewer : l.steps ≤ l.fn.steps;
}

abbrev pub decreases-loop-index : goal.decreases-loop-index
decreases-loop-index l = 2 * l.steps + vec_len l.pending
