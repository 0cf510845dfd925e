use Rattle.std.proofs.Common.{◌∙◌}
use Rattle.std.proofs.lemmas.Result.{IfOk-weaker}
use Rattle.ps_formula.specs.Formulas.{implies}
use Rattle.ps_sentences.proofs.GrownLemmas.{added_formula, added_grows, formula_kept}
use Rattle.ps_models.proofs.TriedCircuits.TrialLemmas.{trial_at}
use Rattle.ps_models.proofs.by_sentences.verdict_given.Goals as goal

pub returns-clause-verdict : goal.returns-clause-verdict
returns-clause-verdict c =
    let added = c.in_ok-root.ensures.ok in
    let left = formula_kept (added_grows added) c.args.antecedent c.requires.antecedent in
    let right = formula_kept (added_grows added) c.args.consequent c.requires.consequent in
    IfOk-weaker c.verdict.result _ _ (λ judgement tried.
    trial_at c.args.trial judgement (added_formula added c.in_ok-root.ensures.table ∙ (λ i. implies (left i) (right i)))
    tried)
    c.verdict.ensures
