use Rattle.std.proofs.Common.{subst, Ok}
use Rattle.ps_solution.specs.Inner.Answered.{TextAnswers}
use Rattle.ps_solution.proofs.EntryLoop.{solution_reads, heading_halts, entries_halt}
use Rattle.ps_solution.proofs.WholeSolutions.{answer_exit, ended, not_ended}
use Rattle.ps_solution.proofs.reader.solution_text.Goals as goal

pub returns-in_err-heading-clause-answer : goal.returns-in_err-heading-clause-answer
returns-in_err-heading-clause-answer c =
    subst (λ s. TextAnswers c.args.ids.now s c.from_residual.result) c.new-tokens.ensures
    (answer_exit c.args.ids.now _ _ _ (heading_halts _ _ _ c.in_err-heading.ensures) c.from_residual.ensures.1)

pub returns-in_err-solved-clause-answer : goal.returns-in_err-solved-clause-answer
returns-in_err-solved-clause-answer c =
    subst (λ s. TextAnswers c.args.ids.now s c.from_residual-in_err-solved.result) c.new-tokens.ensures
    (answer_exit c.args.ids.now _ _ _ (entries_halt _ _ c.in_ok-heading.ensures c.in_err-solved.ensures.part)
    c.from_residual-in_err-solved.ensures.1)

pub returns-in_err-finish-clause-answer : goal.returns-in_err-finish-clause-answer
returns-in_err-finish-clause-answer c =
    subst (λ s. TextAnswers c.args.ids.now s c.from_residual-in_err-finish.result) c.new-tokens.ensures
    (not_ended c.args.ids.now _ _ _ _ _ (solution_reads _ c.in_ok-heading.ensures c.in_ok-solved.ensures.part)
    c.in_err-finish.ensures c.from_residual-in_err-finish.ensures.1)

pub returns-clause-answer : goal.returns-clause-answer
returns-clause-answer c =
    subst (λ s. TextAnswers c.args.ids.now s (Ok c.in_ok-solved.solved)) c.new-tokens.ensures
    (ended c.args.ids.now _ _ _ _ (solution_reads _ c.in_ok-heading.ensures c.in_ok-solved.ensures.part)
    c.in_ok-finish.ensures)
