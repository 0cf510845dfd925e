use Rattle.std.proofs.Common.{ℕ, ◌≡◌, List, Result, Ok}
use Rattle.ps_solver.specs.Solvers.{MayAnswer, SolverData, answers_now}
use Rattle.ps_synthesis.specs.Promises.{SynthesisData}
use Rattle.ps_synthesis.proofs.SynthesiseLemmas.{text_fault}
use Rattle.ps_program.specs.declared.answer.Refusal.{Refusal}
use Rattle.ps_program.specs.Replies.{Reply, reply_of}
use Rattle.ps_program.specs.StageFaults.{IsTold}
use Rattle.ps_program.specs.Commands.Synthesis.{AnswersReport, IsPrinted, Synthesises, synthesis_reply}
use Rattle.ps_program.proofs.ByCommand.OutcomeLemmas.{gives_failed, gives_handed}
use Rattle.ps_program.proofs.ByCommand.SynthLemmas.{gives_told, of_text}
use Rattle.ps_program.proofs.commands.synth.report_by_game.Goals as goal

pub returns-clause-answer : goal.returns-clause-answer
returns-clause-answer g c = c.solution-answer.ensures.answer c.args.text.now c.in_ok-problem.ensures.problem

pub returns-in_err-problem-clause-answer : goal.returns-in_err-problem-clause-answer
returns-in_err-problem-clause-answer g c =
    let solver : SolverData = g.S.Solver.known c.args.solver.now in
    let may : MayAnswer = answers_now solver in
    let asked = c.args.asked in
    let text = c.args.text.now in
    let fault = c.in_err-problem.field-0.0 in
    let Prints : SynthesisData → Result Reply (List ℕ) → Type 0 = λ s outcome.
    IsPrinted asked.full asked.compact s × (outcome ≡ Ok (synthesis_reply asked.full asked.compact s)) in
    gives_handed reply_of (AnswersReport solver asked text) c.from_residual.result (IsTold fault)
    c.from_residual.ensures.1 (λ (refused : Refusal) told. gives_failed (λ (s : SynthesisData). s) (Synthesises solver
    asked.order text) reply_of Prints refused (gives_told solver asked.order text fault refused
    (text_fault may asked.order text fault c.in_err-problem.ensures.refused)
    (of_text solver.is_sure text fault c.in_err-problem.ensures.refused) told))
