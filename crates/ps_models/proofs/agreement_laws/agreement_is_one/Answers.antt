use Rattle.ps_models.proofs.ComparedAutomata.AgreementLemmas.{agreeing}
use Rattle.ps_models.proofs.agreement_laws.agreement_is_one.Goals as goal

pub returns-clause-agrees : goal.returns-clause-agrees
returns-clause-agrees c = λ file f sound admitted distinct are not_accepted not_rejected.
    let there = c.automaton_is_there.ensures file sound admitted in
    agreeing file f there.0 there.1 there.2 there.3 distinct are not_accepted not_rejected

pub returns-clause-accepts : goal.returns-clause-accepts
returns-clause-accepts c = λ file f stem lap agrees wrong.
    wrong.violates ((agrees.agree stem lap wrong.is_lasso).0 wrong.accepts)

pub returns-clause-rejects : goal.returns-clause-rejects
returns-clause-rejects c = λ file f stem lap agrees wrong.
    wrong.rejects ((agrees.agree stem lap wrong.is_lasso).1 wrong.satisfies)

pub returns-clause-apart : goal.returns-clause-apart
returns-clause-apart c = λ file f stem lap accepted rejected. accepted.violates rejected.satisfies
