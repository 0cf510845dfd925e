use Rattle.std.proofs.Common.{◌≡◌, [], take}
use Rattle.ps_label.specs.Words.{lasso_word}
use Rattle.ps_sentences.specs.Sentences.{AllHold}
use Rattle.ps_sentences.specs.Tables.{listed_formulas}
use Rattle.ps_models.specs.Inner.Claims.{AreAmong, NoneHolds}
use Rattle.ps_models.proofs.claims.first_violated.Given as goal

abbrev pub invariant-loop-formula : goal.invariant-loop-formula
invariant-loop-formula l = record {
  among : AreAmong l.formulas l.found.items;
  violated : NoneHolds (lasso_word l.word.stem l.word.lap) 0 (listed_formulas l.table l.found.items);
  none : l.found.items ≡ [] →
      AllHold (lasso_word l.word.stem l.word.lap) 0 (listed_formulas l.table (take l.formula-index l.formulas));
}
