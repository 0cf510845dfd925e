use Rattle.std.proofs.Common.{arith}
use Rattle.ps_synthesis.proofs.synthesis.synthesise_by.Goals as goal

pub returns-clause-report : goal.returns-clause-report
returns-clause-report g c = grind arith

pub returns-clause-refused : goal.returns-clause-refused
returns-clause-refused g c = grind arith

pub returns-clause-sure : goal.returns-clause-sure
returns-clause-sure g c = λ sure file accepted.
    c.report_by-report.ensures.sure sure c.args.order c.args.text.now c.in_ok-problem.ensures.problem
