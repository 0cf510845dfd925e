use Rattle.ps_product.proofs.CircuitFunctions.GroupLemmas.{ok_map}
use Rattle.ps_verify.proofs.PartJudgements.{err_map, refused_alike}
use Rattle.ps_models.specs.Sentences.{named_formula}
use Rattle.ps_models.proofs.JudgedCircuits.PartSentences.{sentence_judged_alike}
use Rattle.ps_models.proofs.satisfying.satisfied_by_core.Goals as goal

pub returns-clause-judged : goal.returns-clause-judged
returns-clause-judged c =
    let part = c.in_ok-part.ensures.part in
    let is_circuit = c.parts_fit.ensures in
    ok_map _ _ c.satisfied_by_all.result c.satisfied_by_all.ensures.judged (λ judgement told.
    sentence_judged_alike c.args.order c.args.role (named_formula c.args.sentence) part c.args.sentence.distinct
    is_circuit
    (c.circuit_has_one_values.ensures c.args.circuit.now is_circuit) judgement told)

pub returns-clause-refused : goal.returns-clause-refused
returns-clause-refused c =
    let part = c.in_ok-part.ensures.part in
    err_map _ _ c.satisfied_by_all.result c.satisfied_by_all.ensures.refused (λ fault refused.
    refused_alike part (c.circuit_has_one_values.ensures _ c.parts_fit.ensures)
    (c.circuit_has_one_values.ensures _ part.is_circuit) c.args.order c.args.role _ _ fault refused)
