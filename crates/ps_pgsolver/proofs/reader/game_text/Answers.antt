use Rattle.std.proofs.Common.{Some, subst, Ok}
use Rattle.std.specs.Option.{option_copied}
use Rattle.ps_pgsolver.specs.Inner.Answered.{TextAnswers}
use Rattle.ps_pgsolver.specs.GameTexts.{game}
use Rattle.ps_pgsolver.proofs.ReadGames.GameExits.{stops_left, stops_right, done_then}
use Rattle.ps_pgsolver.proofs.ReadGames.GameLaws.{joint_parity, joint_start}
use Rattle.ps_pgsolver.proofs.ReadGames.WholeGames.{answer_exit, ended, not_ended}
use Rattle.ps_pgsolver.proofs.reader.game_text.Goals as goal

pub returns-in_err-_parity-clause-answer : goal.returns-in_err-_parity-clause-answer
unfolding game
returns-in_err-_parity-clause-answer c =
    let known = option_copied c.args.known in
    subst (λ s. TextAnswers known s c.from_residual.result) c.new-tokens.ensures (answer_exit known c.new-tokens.result
    _ _ (stops_left (joint_parity known) _ _ c.in_err-_parity.ensures) c.from_residual.ensures.1)

pub returns-in_err-_start-clause-answer : goal.returns-in_err-_start-clause-answer
unfolding game
returns-in_err-_start-clause-answer c =
    let known = option_copied c.args.known in
    subst (λ s. TextAnswers known s c.from_residual-in_err-_start.result) c.new-tokens.ensures
    (answer_exit known c.new-tokens.result _ _ (stops_right (joint_parity known) _ _ _ _ c.in_ok-_parity.ensures
    (stops_left (joint_start known) _ _ c.in_err-_start.ensures)) c.from_residual-in_err-_start.ensures.1)

pub returns-in_err-nodes-clause-answer : goal.returns-in_err-nodes-clause-answer
unfolding game
returns-in_err-nodes-clause-answer c =
    let known = option_copied c.args.known in
    subst (λ s. TextAnswers known s c.from_residual-in_err-nodes.result) c.new-tokens.ensures
    (answer_exit known c.new-tokens.result _ _ (stops_right (joint_parity known) _ _ _ _ c.in_ok-_parity.ensures
    (stops_right (joint_start known) _ _ _ _ c.in_ok-_start.ensures c.in_err-nodes.ensures.part))
    c.from_residual-in_err-nodes.ensures.1)

pub returns-in_err-finish-clause-answer : goal.returns-in_err-finish-clause-answer
unfolding game
returns-in_err-finish-clause-answer c =
    let known = option_copied c.args.known in
    subst (λ s. TextAnswers known s c.from_residual-in_err-finish.result) c.new-tokens.ensures
    (not_ended known c.new-tokens.result _ _ _ _ (done_then (joint_parity known) _ _ _ _ _ c.in_ok-_parity.ensures
    (done_then (joint_start known) _ _ _ _ _ c.in_ok-_start.ensures c.in_ok-nodes.ensures.part)) c.in_err-finish.ensures
    c.from_residual-in_err-finish.ensures.1)

pub returns-clause-answer : goal.returns-clause-answer
unfolding game
returns-clause-answer c =
    let known = option_copied c.args.known in
    subst (λ s. TextAnswers known s (Ok c.in_ok-nodes.nodes)) c.new-tokens.ensures
    (ended known c.new-tokens.result _ _ _ (done_then (joint_parity known) _ _ _ _ _ c.in_ok-_parity.ensures
    (done_then (joint_start known) _ _ _ _ _ c.in_ok-_start.ensures c.in_ok-nodes.ensures.part)) c.in_ok-finish.ensures)

pub returns-clause-later : goal.returns-clause-later
unfolding game
returns-clause-later c = λ ids each. subst (λ s. TextAnswers (Some ids) s (Ok c.in_ok-nodes.nodes)) c.new-tokens.ensures
    (ended (Some ids) c.new-tokens.result _ _ _ (done_then (joint_parity (Some ids)) _ _ _ _ _ c.in_ok-_parity.ensures
    (done_then (joint_start (Some ids)) _ _ _ _ _ c.in_ok-_start.ensures (c.in_ok-nodes.ensures.later ids each)))
    c.in_ok-finish.ensures)
