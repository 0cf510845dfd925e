use Rattle.ps_program.proofs.AtMostOne.OneStage.{circuit_one}
use Rattle.ps_program.proofs.Exchanged.SmallerSpecified.{smaller_specified}
use Rattle.ps_program.proofs.laws.smaller_specified_circuits_are_verified.Goals as goal

pub returns : goal.returns
returns c = smaller_specified (circuit_one c.one_answer.ensures) c.judgement_is_one.ensures.apart
    c.read_circuit_is_circuit.ensures
