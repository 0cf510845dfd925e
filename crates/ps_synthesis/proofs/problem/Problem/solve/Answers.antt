use Rattle.std.proofs.Common.{arith, Ok, subst}
use Rattle.ps_game.specs.Games.{NamedGameData}
use Rattle.ps_solver.specs.Solvers.{Answered, MayAnswer}
use Rattle.ps_synthesis.specs.Stages.{IsSolverFault}
use Rattle.ps_synthesis.proofs.Reporting.{sure_circuit}
use Rattle.ps_synthesis.proofs.SynthesiseLemmas.{fault_by, fault_of, synthesis_by}
use Rattle.ps_synthesis.proofs.problem.Problem.solve.Goals as goal

pub returns-clause-synthesis : goal.returns-clause-synthesis
returns-clause-synthesis g c = λ order text of. (
    let may : MayAnswer = Answered (g.S.Solver.known c.args.solver.now) (g.S.Solver.known c.certified.new.solver) in
    let game = c.args.self.now.game in
    let certificate = c.in_ok-certificate.certificate in
    let answered = subst (λ (game : NamedGameData). may game (Ok certificate)) c.game.ensures.game
    c.in_ok-certificate.ensures.answered in
    synthesis_by may game certificate answered order text c.in_ok-circuit.circuit
    (c.in_ok-circuit.ensures.circuit order text of))

pub returns-in_err-certificate-clause-refused : goal.returns-in_err-certificate-clause-refused
returns-in_err-certificate-clause-refused g c = λ order text of. (
    let may : MayAnswer = Answered (g.S.Solver.known c.args.solver.now) (g.S.Solver.known c.certified.new.solver) in
    let fault = c.in_err-certificate.field-0.0 in
    let refused = fault_of may order text c.args.self.now of fault (subst (λ (game : NamedGameData). IsSolverFault may
    game fault) c.game.ensures.game c.in_err-certificate.ensures.refused) in
    grind (arith, refused))

pub returns-in_err-circuit-clause-refused : goal.returns-in_err-circuit-clause-refused
returns-in_err-circuit-clause-refused g c = λ order text of. (
    let may : MayAnswer = Answered (g.S.Solver.known c.args.solver.now) (g.S.Solver.known c.certified.new.solver) in
    let game = c.args.self.now.game in
    let certificate = c.in_ok-certificate.certificate in
    let answered = subst (λ (game : NamedGameData). may game (Ok certificate)) c.game.ensures.game
    c.in_ok-certificate.ensures.answered in
    let fault = c.in_err-circuit.field-0.0 in
    let refused = fault_by may game certificate answered order text fault
    (c.in_err-circuit.ensures.refused order text of) in
    grind (arith, refused))

pub returns-in_err-circuit-clause-sure : goal.returns-in_err-circuit-clause-sure
returns-in_err-circuit-clause-sure g c = grind (arith, sure_circuit)
