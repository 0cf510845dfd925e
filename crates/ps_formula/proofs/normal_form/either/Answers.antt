use Rattle.ps_formula.proofs.FormLemmas.{forms_flipped, forms_like, or_by_and}
use Rattle.ps_formula.proofs.normal_form.either.Goals as goal

pub returns-clause-forms : goal.returns-clause-forms
returns-clause-forms c a b left right = forms_like (or_by_and a b)
    (forms_flipped c.flipped-3.ensures.formula c.flipped-3.ensures.negation (c.in_ok-forms.ensures.forms _ _
    (forms_flipped c.flipped.ensures.formula c.flipped.ensures.negation left)
    (forms_flipped c.flipped-2.ensures.formula c.flipped-2.ensures.negation right)))
