use Rattle.std.proofs.Common.{rules}
use Rattle.ps_zielonka.proofs.PendingCalls.Deep.{depth_solved}
use Rattle.ps_zielonka.proofs.nest.Nest.solve.Goals as goal

pub returns-clause-done : goal.returns-clause-done
returns-clause-done g c = λ _. record { solved = search rules; depth = search (rules, depth_solved) }
