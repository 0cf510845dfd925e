use Rattle.ps_tableau_product.proofs.FairProducts.FairLassos.{satisfied, word_of}
use Rattle.ps_models.proofs.laws.fair_lasso_satisfies.Goals as goal

pub returns-clause-word : goal.returns-clause-word
returns-clause-word c = λ names circuit t state stem lap fair. word_of names circuit t state stem lap fair

pub returns-clause-satisfied : goal.returns-clause-satisfied
returns-clause-satisfied c = λ names circuit t state f stem lap is_for fair.
    satisfied names circuit t state stem lap fair f is_for
