use Rattle.std.proofs.lemmas.Result.{IfOk-weaker}
use Rattle.ps_formula.proofs.FormLemmas.{forms_flipped, forms_kept, forms_like, iff_by_or}
use Rattle.ps_formula.proofs.normal_form.iff.Goals as goal

pub returns-clause-forms : goal.returns-clause-forms
returns-clause-forms c = IfOk-weaker c.both.result _ _ (λ forms made a b left right.
    forms_like (iff_by_or a b) (made _ _
    (forms_kept c.in_ok-back.ensures.made (c.in_ok-there.ensures.forms _ _
    (forms_flipped c.flipped.ensures.formula c.flipped.ensures.negation left) right))
    (c.in_ok-back.ensures.forms _ _
    (forms_flipped c.flipped-2.ensures.formula c.flipped-2.ensures.negation
    (forms_kept c.in_ok-there.ensures.made right))
    (forms_kept c.in_ok-there.ensures.made left)))) c.both.ensures.forms
