use Rattle.std.proofs.lemmas.Result.{IfOk-weaker}
use Rattle.ps_formula.proofs.FormLemmas.{forms_kept, forms_like, weak_until_by_release}
use Rattle.ps_formula.proofs.normal_form.weak_until.Goals as goal

pub returns-clause-forms : goal.returns-clause-forms
returns-clause-forms c = IfOk-weaker c.release.result _ _ (λ forms made a b left right.
    forms_like (weak_until_by_release a b) (made _ _ (forms_kept c.in_ok-right.ensures.made right)
    (c.in_ok-right.ensures.forms _ _ left right))) c.release.ensures.forms
