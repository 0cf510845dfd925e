use Rattle.ps_program.proofs.AtMostOne.OneStage.{circuit_one}
use Rattle.ps_program.proofs.Exchanged.VerifiedWinners.{winners_verified}
use Rattle.ps_program.proofs.laws.specified_circuits_are_verified.Goals as goal

pub returns : goal.returns
returns c = winners_verified (circuit_one c.one_answer.ensures) c.judgement_is_one.ensures.apart
