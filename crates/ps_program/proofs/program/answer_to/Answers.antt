use Rattle.std.proofs.Common.{subst, ℕ, List, Result}
use Rattle.ps_program.specs.Program.{AnswersInput, AnswersLine}
use Rattle.ps_program.specs.CommandLine.{IsLine}
use Rattle.ps_program.specs.Replies.{Reply, reply_of}
use Rattle.ps_program.specs.Finders.{Finders, finders_of}
use Rattle.ps_program.specs.declared.answer.Answer.{Answer}
use Rattle.ps_program.proofs.ByCommand.OutcomeLemmas.{settled}
use Rattle.ps_program.proofs.program.answer_to.Goals as goal

pub returns-clause-answer : goal.returns-clause-answer
returns-clause-answer g c =
    let finders : Finders = finders_of (g.S.Solver.known c.args.built_in.now) (g.T.Solver.known c.args.replay.now)
    (g.P.Proposer.known c.args.proposer.now) (g.U.Translator.may_give c.args.translator.now) in
    let line = c.in_ok-line.line in
    let input = c.args.input.now in
    settled (AnswersLine finders line c.first_line.result.1.now) c.answer_line-answer.result c.settle.result
    (λ (answer : Answer). AnswersInput finders input (reply_of answer)) c.answer_line-answer.ensures.answer
    c.settle.ensures
    (λ (answer : Answer) (told : Result Reply (List ℕ)) answers same. (
      line,
      subst (λ (first : List ℕ). IsLine first line) c.first_line.ensures.line c.in_ok-line.ensures,
      (told, subst (λ (texts : List ℕ). AnswersLine finders line texts told) c.first_line.ensures.rest answers, same),
    ))
