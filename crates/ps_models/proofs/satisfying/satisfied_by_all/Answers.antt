use Rattle.ps_timing.proofs.FewInputs.{few_inputs}
use Rattle.ps_models.proofs.JudgedCircuits.VerdictLemmas.{judgement_by_verdict}
use Rattle.ps_models.specs.Sentences.{named_formula}
use Rattle.ps_models.proofs.satisfying.satisfied_by_all.Goals as goal

pub in_time-requires : goal.in_time-requires
in_time-requires c = few_inputs c.parts_fit.ensures (rw c.in-Some.is at c.in_ok-roles.ensures.some)

pub returns-clause-judged : goal.returns-clause-judged
returns-clause-judged c =
    let is_circuit = c.parts_fit.ensures in
    judgement_by_verdict c.args.order c.args.role (named_formula c.args.sentence) c.args.circuit.now
    c.args.sentence.distinct is_circuit (c.circuit_has_one_values.ensures c.args.circuit.now is_circuit)
    (rw c.in-Some.is at c.in_ok-roles.ensures.fits) (c.in_ok-in_time.ensures.yes c.if-not-branch.false)
    c.in_ok-judgement.judgement c.in_ok-judgement.ensures
