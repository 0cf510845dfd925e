use Rattle.std.proofs.lemmas.Result.{IfOk-weaker}
use Rattle.ps_formula.proofs.FormLemmas.{globally_by_release, forms_kept, forms_like}
use Rattle.ps_formula.proofs.normal_form.globally.Goals as goal

pub returns-clause-forms : goal.returns-clause-forms
returns-clause-forms c = IfOk-weaker c.release.result _ _ (λ forms made a inner.
    forms_like (globally_by_release a)
    (made _ _ c.in_ok-left.ensures.forms (forms_kept c.in_ok-left.ensures.made inner))) c.release.ensures.forms
