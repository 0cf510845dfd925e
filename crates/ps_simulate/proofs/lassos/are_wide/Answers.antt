use Rattle.std.proofs.Common.{[], arith}
use Rattle.std.proofs.lemmas.Bool.{cases_eq}
use Rattle.std.proofs.lemmas.List.{length-map}
use Rattle.ps_simulate.proofs.LapsOfRuns.LassoLemmas.{letter_at}
use Rattle.ps_simulate.proofs.lassos.are_wide.Goals as goal

pub returns-then-len-width-clause-not : goal.returns-then-len-width-clause-not
returns-then-len-width-clause-not c = λ e all.
    let i = c.loop-letter.letter-index in
    grind (arith, letter_at c.args.letters.now i [] c.loop-letter-test.true c.letter-item.is, length-map)

pub loop-letter-preserved : goal.loop-letter-preserved
loop-letter-preserved c = λ k d lt. grind (
  arith,
  cases_eq k c.loop-letter.letter-index,
  letter_at c.args.letters.now c.loop-letter.letter-index d c.loop-letter-test.true c.letter-item.is,
)
