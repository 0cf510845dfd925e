use Rattle.std.proofs.Common.{length}
use Rattle.ps_label.specs.Words.{lasso_word}
use Rattle.ps_formula.proofs.LassoTruths.{again, lasso_is_decided, word_repeats}
use Rattle.ps_formula.proofs.laws.lasso_truths.Goals as goal

pub returns-clause-repeat : goal.returns-clause-repeat
returns-clause-repeat c f stem lap i low =
    let repeats = again f (lasso_word stem lap) (length stem) (length lap) (word_repeats stem lap) in
    (repeats.back i low, repeats.on i low)

pub returns-clause-decided : goal.returns-clause-decided
returns-clause-decided c stem lap some = lasso_is_decided stem lap some
