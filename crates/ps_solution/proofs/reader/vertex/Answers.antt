use Rattle.std.proofs.Common.{arith}
use Rattle.ps_solution.proofs.EntryLoop.{exit}
use Rattle.ps_solution.proofs.SignAnswers.{reads_vertex}
use Rattle.ps_solution.proofs.reader.vertex.Goals as goal

pub returns-in_err-id-clause-part : goal.returns-in_err-id-clause-part
returns-in_err-id-clause-part c = grind (arith, reads_vertex, exit)

pub returns-clause-part : goal.returns-clause-part
returns-clause-part c = grind (arith, reads_vertex)
