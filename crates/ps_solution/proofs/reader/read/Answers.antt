use Rattle.std.proofs.Common.{rules, subst, Ok}
use Rattle.std.proofs.lemmas.Bool.{both_ways}
use Rattle.ps_pgsolver.specs.Lexer.{stream_of}
use Rattle.ps_solution.specs.Inner.Answered.{TextAnswers}
use Rattle.ps_solution.proofs.WholeSolutions.{refused_exit, incomplete_answer, whole_answer}
use Rattle.ps_solution.proofs.reader.read.Goals as goal

pub returns-in_err-solved-clause-answer : goal.returns-in_err-solved-clause-answer
returns-in_err-solved-clause-answer c = search (rules, refused_exit)

pub returns-then-not-is_whole-clause-answer : goal.returns-then-not-is_whole-clause-answer
returns-then-not-is_whole-clause-answer c =
    incomplete_answer c.args.game.now.ids c.args.text.now c.in_ok-solved.solved
    (subst (λ ids. TextAnswers ids (stream_of c.args.text.now) (Ok c.in_ok-solved.solved)) c.in_ok-ids.ensures
    c.in_ok-solved.ensures.answer)
    (λ whole. both_ways c.is_whole.result c.if-not-is_whole.true (c.is_whole.ensures.1 whole))

pub returns-clause-answer : goal.returns-clause-answer
returns-clause-answer c =
    whole_answer c.args.game.now.ids c.args.text.now c.in_ok-solved.solved c.into_solution.result
    (subst (λ ids. TextAnswers ids (stream_of c.args.text.now) (Ok c.in_ok-solved.solved)) c.in_ok-ids.ensures
    c.in_ok-solved.ensures.answer)
    (c.is_whole.ensures.0 c.if-not-is_whole.false) c.into_solution.ensures.value
