use Rattle.std.proofs.Common.{◌+◌, ◌*◌, vec_len}
use Rattle.ps_formula.specs.Formulas.{formula_at}
use Rattle.ps_sentences.specs.Inner.Owing.{Owes}
use Rattle.ps_sentences.specs.Tables.{IsGrownTable}
use Rattle.ps_sentences.proofs.parting.Parting.add_sentences.Given as goal

abbrev pub invariant-loop-sentence : goal.invariant-loop-sentence
invariant-loop-sentence l = record {
  grows : IsGrownTable l.fn.self.table l.self.table;
  owes : Owes (formula_at l.fn.self.table l.fn.root) l.self l.pending.items;
}

abbrev pub decreases-loop-sentence : goal.decreases-loop-sentence
decreases-loop-sentence l = 2 * l.steps + vec_len l.pending
