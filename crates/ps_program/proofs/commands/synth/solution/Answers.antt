use Rattle.std.proofs.Common.{ℕ, ◌≡◌, List, Result, Ok, ap, inr, subst}
use Rattle.ps_game.specs.Games.{NamedGameData}
use Rattle.ps_solver.specs.Solvers.{Answered, MayAnswer, SolverData, answers_now}
use Rattle.ps_synthesis.specs.Promises.{SynthesisData}
use Rattle.ps_synthesis.proofs.ReportOutcomes.{fault_more, winners_more}
use Rattle.ps_program.specs.declared.answer.Refusal.{Refusal}
use Rattle.ps_program.specs.declared.answer.Refusal.TheVariants as refusal
use Rattle.ps_program.specs.Replies.{Reply, reply_of}
use Rattle.ps_program.specs.StageFaults.{IsTold}
use Rattle.ps_program.specs.Commands.Synthesis.{AnswersReport, IsPrinted, Synthesises, synthesis_reply}
use Rattle.ps_program.proofs.ByCommand.OutcomeLemmas.{gives_failed, gives_handed, gives_passed}
use Rattle.ps_program.proofs.ByCommand.SynthLemmas.{gives_told, unsure_of}
use Rattle.ps_program.proofs.commands.synth.solution.Goals as goal

pub returns-in_err-synthesis-clause-answer : goal.returns-in_err-synthesis-clause-answer
returns-in_err-synthesis-clause-answer g c = λ text of. (
    let solver : SolverData = g.S.Solver.known c.args.solver.now in
    let may : MayAnswer = answers_now solver in
    let both : MayAnswer = Answered solver (g.S.Solver.known c.solve.new.solver) in
    let asked = c.args.asked in
    let fault = c.in_err-synthesis.field-0.0 in
    let Prints : SynthesisData → Result Reply (List ℕ) → Type 0 = λ s outcome.
    IsPrinted asked.full asked.compact s × (outcome ≡ Ok (synthesis_reply asked.full asked.compact s)) in
    gives_handed reply_of (AnswersReport solver asked text) c.from_residual.result (IsTold fault)
    c.from_residual.ensures.1 (λ (refused : Refusal) told. gives_failed (λ (s : SynthesisData). s) (Synthesises solver
    asked.order text) reply_of Prints refused (gives_told solver asked.order text fault refused (fault_more both may
    (λ game answer h. h.0) asked.order text fault (c.in_err-synthesis.ensures.refused asked.order text of))
    (unsure_of solver.is_sure fault c.in_err-synthesis.ensures.sure) told)))

pub returns-in_err-print-clause-answer : goal.returns-in_err-print-clause-answer
returns-in_err-print-clause-answer g c = λ text of. gives_passed reply_of (AnswersReport (g.S.Solver.known
    c.args.solver.now) c.args.asked text) c.from_residual-in_err-print.result refusal.OutOfMemory
    c.from_residual-in_err-print.ensures.1 tt

pub returns-clause-answer : goal.returns-clause-answer
returns-clause-answer g c = λ text of. (
    let solver : SolverData = g.S.Solver.known c.args.solver.now in
    let both : MayAnswer = Answered solver (g.S.Solver.known c.solve.new.solver) in
    let asked = c.args.asked in
    let made = c.in_ok-synthesis.synthesis in
    let s : NamedGameData → SynthesisData = λ game. record {
      game = game;
      certificate = made.certificate;
      circuit = made.circuit;
    } in
    let game = c.args.problem.now.game in
    let answer = c.in_ok-print.field-0 in
    inr (
      s game,
      winners_more both (answers_now solver) (λ game answer h. h.0) asked.order text (s game)
          (c.in_ok-synthesis.ensures.synthesis asked.order text of),
      (
        subst (λ (g : NamedGameData). IsPrinted asked.full asked.compact (s g)) c.game.ensures.game
            c.in_ok-print.ensures.printed,
        ap Ok (subst (λ (g : NamedGameData). reply_of answer ≡ synthesis_reply asked.full asked.compact (s g))
            c.game.ensures.game c.in_ok-print.ensures.answer),
      ),
    ))
