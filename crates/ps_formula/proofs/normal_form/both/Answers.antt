use Rattle.ps_formula.proofs.FormLemmas.{and_turned}
use Rattle.ps_formula.proofs.normal_form.both.Goals as goal

pub returns-in-Some-constant_side-clause-forms : goal.returns-in-Some-constant_side-clause-forms
returns-in-Some-constant_side-clause-forms c a b left right =
    and_turned (c.in-Some-constant_side.ensures.forms b a right left)
