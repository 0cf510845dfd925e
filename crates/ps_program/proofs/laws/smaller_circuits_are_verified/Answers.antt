use Rattle.ps_program.proofs.AtMostOne.OneStage.{automaton_one, circuit_one}
use Rattle.ps_program.proofs.Exchanged.SmallerVerified.{smaller_verified}
use Rattle.ps_program.proofs.laws.smaller_circuits_are_verified.Goals as goal

pub returns : goal.returns
returns c = smaller_verified
    (automaton_one c.one_answer-2.ensures c.refusal_is_one.ensures.one c.refusal_is_one.ensures.apart)
    (circuit_one c.one_answer.ensures) c.judgement_is_one.ensures.apart c.read_circuit_is_circuit.ensures
