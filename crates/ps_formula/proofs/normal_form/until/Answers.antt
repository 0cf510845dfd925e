use Rattle.ps_formula.proofs.FormLemmas.{if_both, until_forms}
use Rattle.ps_formula.proofs.normal_form.until.Goals as goal

pub returns-clause-forms : goal.returns-clause-forms
returns-clause-forms c =
    if_both c.pair.result _ _ _ c.pair.ensures.made c.pair.ensures.trees (λ forms made trees a b left right.
    until_forms a b made.within trees left right)
