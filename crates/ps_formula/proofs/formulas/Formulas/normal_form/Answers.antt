use Rattle.std.proofs.Common.{◌∙◌}
use Rattle.ps_formula.proofs.FormLemmas.{last_forms}
use Rattle.ps_formula.proofs.formulas.Formulas.normal_form.Goals as goal

pub returns-clause-formula : goal.returns-clause-formula
returns-clause-formula c = (last_forms c.args.root c.index.result.now (c.as_slice.ensures ∙ c.self.view_is) c.requires
    c.in_ok-forms.ensures.count c.in_ok-forms.ensures.known c.index.ensures).formula

pub returns-clause-negation : goal.returns-clause-negation
returns-clause-negation c = (last_forms c.args.root c.index.result.now (c.as_slice.ensures ∙ c.self.view_is) c.requires
    c.in_ok-forms.ensures.count c.in_ok-forms.ensures.known c.index.ensures).negation
