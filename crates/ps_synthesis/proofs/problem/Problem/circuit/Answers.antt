use Rattle.std.proofs.Common.{IfErr, IfOk, subst, sym}
use Rattle.ps_circuit.specs.Circuits.{CircuitData}
use Rattle.ps_solver.specs.Solving.{IsCertified}
use Rattle.ps_synthesis.specs.Problems.{IsProblemOf, ProblemData, ReturnsOnly}
use Rattle.ps_synthesis.specs.Reports.{IsWinnersSynthesis}
use Rattle.ps_synthesis.specs.SynthFaults.{IsSynthFault}
use Rattle.ps_synthesis.proofs.Reporting.{err_all, ok_both, problem_cause, problem_synthesis}
use Rattle.ps_synthesis.proofs.problem.Problem.circuit.Goals as goal

pub returns-clause-circuit : goal.returns-clause-circuit
returns-clause-circuit c = λ order text. (
    let i = c.self.inside in
    let p : ProblemData =
    record { order = i.order; automaton = i.automaton; keys = i.game.keys.items; game = i.game.game } in
    let certificate = c.args.certificate.now in
    let made = c.circuit_of_certificate in
    let certified = subst (λ (q : ProblemData). IsCertified q.game certificate) (sym c.self.view_is) c.requires in
    let hold = c.valid_regions_are_held.ensures p.game.game certificate certified.fits certified.valid in
    let outside = c.no_strategy_wins_outside.ensures p.game.game certificate c.parts_fit.ensures.is_game
    certified.fits certified.valid in
    subst (λ (q : ProblemData). IsProblemOf order text q →
    IfOk made.result (λ circuit. IsWinnersSynthesis (ReturnsOnly q.game certificate) order text
    (record { game = q.game; certificate = certificate; circuit = circuit }))) c.self.view_is
    (λ of. ok_both _ _ _ (λ (circuit : CircuitData) is answers. problem_synthesis p c.self.invariant.0 certificate
    certified order text of circuit hold outside is answers) made.result made.ensures.made made.ensures.answers))

pub returns-clause-refused : goal.returns-clause-refused
returns-clause-refused c = λ order text. (
    let i = c.self.inside in
    let p : ProblemData =
    record { order = i.order; automaton = i.automaton; keys = i.game.keys.items; game = i.game.game } in
    let certificate = c.args.certificate.now in
    let made = c.circuit_of_certificate in
    let certified = subst (λ (q : ProblemData). IsCertified q.game certificate) (sym c.self.view_is) c.requires in
    subst (λ (q : ProblemData). IsProblemOf order text q →
    IfErr made.result (IsSynthFault (ReturnsOnly q.game certificate) order text)) c.self.view_is
    (λ of. err_all _ _ (problem_cause p c.self.invariant.0 certificate certified order text of) made.result
    made.ensures.refused))
