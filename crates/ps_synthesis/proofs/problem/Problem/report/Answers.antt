use Rattle.std.proofs.Common.{arith}
use Rattle.ps_synthesis.proofs.ReportOutcomes.{report_in}
use Rattle.ps_synthesis.proofs.problem.Problem.report.Goals as goal

pub returns-clause-report : goal.returns-clause-report
returns-clause-report c = grind (arith, report_in)
