use Rattle.std.proofs.Common.{arith}
use Rattle.ps_solution.proofs.SignAnswers.{value_small, value_large}
use Rattle.ps_solution.proofs.reader.number_of.Goals as goal

pub returns-in-Number : goal.returns-in-Number
returns-in-Number c = grind (arith, value_small)

pub returns-in_default : goal.returns-in_default
returns-in_default c = grind (arith, value_large)
