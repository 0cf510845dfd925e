use Rattle.std.proofs.Common.{arith}
use Rattle.ps_solution.proofs.EntryLoop.{exit}
use Rattle.ps_solution.proofs.SignAnswers.{reads_successor}
use Rattle.ps_solution.proofs.reader.successor.Goals as goal

pub returns-in_err-id-clause-part : goal.returns-in_err-id-clause-part
returns-in_err-id-clause-part c = grind (arith, reads_successor, exit)

pub returns-clause-part : goal.returns-clause-part
returns-clause-part c = grind (arith, reads_successor)
