use Rattle.ps_solution.proofs.SignAnswers.{reads_number}
use Rattle.ps_solution.proofs.reader.number.Goals as goal

pub returns : goal.returns
returns c = reads_number _ c.any_number.ensures.rest c.any_number.ensures.answer
