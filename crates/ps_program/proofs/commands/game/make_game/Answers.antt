use Rattle.std.proofs.Common.{arith}
use Rattle.ps_program.proofs.commands.game.make_game.Goals as goal

pub returns-clause-game : goal.returns-clause-game
returns-clause-game c = λ file chain built. c.in_ok-game_of.ensures.file file chain built

pub returns-in_err-game_of-clause-game : goal.returns-in_err-game_of-clause-game
returns-in_err-game_of-clause-game c = grind arith
