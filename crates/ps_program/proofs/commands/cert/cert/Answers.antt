use Rattle.std.proofs.Common.{arith}
use Rattle.ps_program.specs.Commands.Games.{ReadsGameOf}
use Rattle.ps_program.specs.Replies.{reply_of}
use Rattle.ps_program.specs.Commands.Solving.{AnswersGame}
use Rattle.ps_program.proofs.ByCommand.OutcomeLemmas.{gives_after}
use Rattle.ps_program.proofs.commands.cert.cert.Goals as goal

pub returns-in_err-game-clause-answer : goal.returns-in_err-game-clause-answer
returns-in_err-game-clause-answer g c = grind arith

pub returns-clause-answer : goal.returns-clause-answer
returns-clause-answer g c = gives_after (ReadsGameOf c.args.order c.args.text.now) reply_of
    (AnswersGame (g.S.Solver.known c.args.solver.now) c.args.compact)
    c.in_ok-game.game c.certify.result c.in_ok-game.ensures.game c.certify.ensures.answer
