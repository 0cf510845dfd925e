use Rattle.std.proofs.Common.{arith, refl, subst}
use Rattle.ps_game.specs.Games.{NamedGameData}
use Rattle.ps_solver.specs.Solvers.{Answered, MayAnswer}
use Rattle.ps_synthesis.specs.Printing.{PrintsCertificate, PrintsGame}
use Rattle.ps_synthesis.specs.SynthFaults.{IsSynthFault, Reported}
use Rattle.ps_synthesis.proofs.ReportOutcomes.{failed}
use Rattle.ps_synthesis.proofs.Reporting.{err_passed, report_is}
use Rattle.ps_synthesis.proofs.synthesis.report_by.Goals as goal

pub returns-clause-report : goal.returns-clause-report
returns-clause-report g c = λ order text of. (
    let may : MayAnswer = Answered (g.S.Solver.known c.args.solver.now) (g.S.Solver.known c.solve.new.solver) in
    let made = c.in_ok-synthesis.synthesis in
    let compact = c.args.compact in
    let printed = c.in_ok-report_of.ensures in
    let report = c.in_ok-report_of.field-0 in
    report_is may order text (record {
      game = c.args.problem.now.game;
      certificate = made.certificate;
      circuit = made.circuit;
    }) compact report (c.in_ok-synthesis.ensures.synthesis order text of) printed.realizable printed.circuit
    (subst (λ (g : NamedGameData). PrintsGame report.game_text.items g) c.game.ensures.game printed.game)
    (subst (λ (g : NamedGameData). PrintsCertificate compact report.certificate_text.items g made.certificate)
    c.game.ensures.game printed.certificate))

pub returns-clause-sure : goal.returns-clause-sure
returns-clause-sure g c = λ sure order text of. Reported c.in_ok-report_of.field-0 refl
    (returns-clause-report g c order text of)

pub returns-in_err-synthesis-clause-refused : goal.returns-in_err-synthesis-clause-refused
returns-in_err-synthesis-clause-refused g c = λ order text of. (
    let may : MayAnswer = Answered (g.S.Solver.known c.args.solver.now) (g.S.Solver.known c.solve.new.solver) in
    err_passed (IsSynthFault may order text) c.in_err-synthesis.field-0.0
    (c.in_err-synthesis.ensures.refused order text of) c.from_residual.result c.from_residual.ensures.1)

pub returns-in_err-synthesis-clause-sure : goal.returns-in_err-synthesis-clause-sure
returns-in_err-synthesis-clause-sure g c = λ sure order text of. (
    let may : MayAnswer = Answered (g.S.Solver.known c.args.solver.now) (g.S.Solver.known c.solve.new.solver) in
    failed may order c.args.compact text c.from_residual.result c.in_err-synthesis.field-0.0
    c.from_residual.ensures.1 (c.in_err-synthesis.ensures.refused order text of)
    (c.in_err-synthesis.ensures.sure sure))

pub returns-in_err-report_of-clause-sure : goal.returns-in_err-report_of-clause-sure
returns-in_err-report_of-clause-sure g c = grind arith
