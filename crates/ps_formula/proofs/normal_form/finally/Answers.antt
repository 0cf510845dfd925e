use Rattle.std.proofs.lemmas.Result.{IfOk-weaker}
use Rattle.ps_formula.proofs.FormLemmas.{finally_by_until, forms_kept, forms_like}
use Rattle.ps_formula.proofs.normal_form.finally.Goals as goal

pub returns-clause-forms : goal.returns-clause-forms
returns-clause-forms c = IfOk-weaker c.until.result _ _ (λ forms made a inner.
    forms_like (finally_by_until a) (made _ _ c.in_ok-left.ensures.forms (forms_kept c.in_ok-left.ensures.made inner)))
    c.until.ensures.forms
