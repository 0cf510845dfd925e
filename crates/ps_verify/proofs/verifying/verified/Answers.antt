use Rattle.std.proofs.Common.{subst}
use Rattle.ps_hoa.specs.Sound.{AreNames}
use Rattle.ps_product.proofs.CircuitFunctions.GroupLemmas.{ok_map}
use Rattle.ps_verify.proofs.PartJudgements.{err_map, judged_alike, refused_alike}
use Rattle.ps_verify.proofs.verifying.verified.Goals as goal

pub returns-clause-judged : goal.returns-clause-judged
returns-clause-judged c =
    let part = c.in_ok-part.ensures.part in
    let is_circuit = c.sound.ensures.circuit in
    ok_map _ _ c.judged.result c.judged.ensures.judged (λ judgement told file chain built.
    judged_alike c.args.order c.args.role file part (subst AreNames built.names c.sound.ensures.names) is_circuit
    (c.circuit_has_one_values.ensures c.args.circuit.now is_circuit) judgement (told file chain built))

pub returns-clause-refused : goal.returns-clause-refused
returns-clause-refused c =
    let part = c.in_ok-part.ensures.part in
    err_map _ _ c.judged.result c.judged.ensures.refused (λ fault refused.
    refused_alike part (c.circuit_has_one_values.ensures _ c.sound.ensures.circuit)
    (c.circuit_has_one_values.ensures _ part.is_circuit) c.args.order c.args.role _ _ fault refused)
