use Rattle.std.proofs.Common.{arith}
use Rattle.ps_solution.proofs.EntryLoop.{exit}
use Rattle.ps_solution.proofs.SignAnswers.{reads_winner}
use Rattle.ps_solution.proofs.reader.winner.Goals as goal

pub returns-in_err-winner : goal.returns-in_err-winner
returns-in_err-winner c = grind (arith, reads_winner, exit)

pub returns : goal.returns
returns c = grind (arith, reads_winner)
