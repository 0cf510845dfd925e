use Rattle.std.proofs.Common.{arith, refl, subst}
use Rattle.ps_game.specs.Games.{NamedGameData}
use Rattle.ps_synthesis.specs.Printing.{PrintsCertificate, PrintsGame}
use Rattle.ps_synthesis.specs.Problems.{ReturnsOnly}
use Rattle.ps_synthesis.specs.SynthFaults.{Reported}
use Rattle.ps_synthesis.proofs.ReportOutcomes.{failed}
use Rattle.ps_synthesis.proofs.Reporting.{report_is, sure_circuit}
use Rattle.ps_synthesis.proofs.problem.Problem.report_of_certified.Goals as goal

pub returns-clause-outcome : goal.returns-clause-outcome
returns-clause-outcome c = λ order text of. (
    let game = c.args.self.now.game in
    let certificate = c.args.certificate.now in
    let compact = c.args.compact in
    let printed = c.in_ok-report_of.ensures in
    let report = c.in_ok-report_of.field-0 in
    Reported report refl (report_is (ReturnsOnly game certificate) order text
    (record { game = game; certificate = certificate; circuit = c.in_ok-circuit.circuit }) compact report
    (c.in_ok-circuit.ensures.circuit order text of) printed.realizable printed.circuit
    (subst (λ (g : NamedGameData). PrintsGame report.game_text.items g) c.game.ensures.game printed.game)
    (subst (λ (g : NamedGameData). PrintsCertificate compact report.certificate_text.items g certificate)
    c.game.ensures.game printed.certificate)))

pub returns-in_err-circuit-clause-outcome : goal.returns-in_err-circuit-clause-outcome
returns-in_err-circuit-clause-outcome c = λ order text of. (
    let p = c.args.self.now in
    let certificate = c.args.certificate.now in
    let fault = c.in_err-circuit.field-0.0 in
    failed (ReturnsOnly p.game certificate) order c.args.compact text c.from_residual.result fault
    c.from_residual.ensures.1 (c.in_err-circuit.ensures.refused order text of)
    (sure_circuit p.order p.automaton p.game.game certificate fault c.in_err-circuit.ensures.cause))

pub returns-in_err-report_of-clause-outcome : goal.returns-in_err-report_of-clause-outcome
returns-in_err-report_of-clause-outcome c = grind arith
