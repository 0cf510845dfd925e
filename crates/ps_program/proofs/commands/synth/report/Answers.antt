use Rattle.ps_program.proofs.ByCommand.OutcomeLemmas.{gives_handed}
use Rattle.ps_program.proofs.ByCommand.SynthLemmas.{short_answers, short_refuses}
use Rattle.ps_program.specs.Commands.Synthesis.{AnswersReport}
use Rattle.ps_program.specs.Replies.{reply_of}
use Rattle.ps_program.specs.StageFaults.{IsTold}
use Rattle.ps_program.specs.declared.answer.Refusal.{Refusal}
use Rattle.ps_solver.specs.Solvers.{SolverData}
use Rattle.ps_program.proofs.commands.synth.report.Goals as goal

pub returns-in_ok-print_circuit-in-Short-clause-answer : goal.returns-in_ok-print_circuit-in-Short-clause-answer
returns-in_ok-print_circuit-in-Short-clause-answer g c = short_answers (g.S.Solver.known c.args.solver.now)
    c.args.asked c.args.text.now c.in-Short.short c.in_ok-print_circuit-in-Short.field-0 c.if-asked.false
    (rw c.in-Short.is at c.in_ok-short.ensures.attempt) c.in_ok-print_circuit-in-Short.ensures.text
    c.in_ok-print_circuit-in-Short.ensures.status c.in_ok-print_circuit-in-Short.ensures.printed

pub returns-in_err-short-clause-answer : goal.returns-in_err-short-clause-answer
returns-in_err-short-clause-answer g c =
    let solver : SolverData = g.S.Solver.known c.args.solver.now in
    let text = c.args.text.now in
    let fault = c.in_err-short.field-0.0 in
    gives_handed reply_of (AnswersReport solver c.args.asked text) c.from_residual.result (IsTold fault)
    c.from_residual.ensures.1 (λ (refused : Refusal) told. short_refuses solver c.args.asked text fault refused
    c.in_err-short.ensures.refused c.in_err-short.ensures.sure told)

pub returns-in-Problem-clause-answer : goal.returns-in-Problem-clause-answer
returns-in-Problem-clause-answer g c = c.solution-answer.ensures.answer c.args.text.now
    (rw c.in-Problem.is at c.in_ok-short.ensures.attempt)
