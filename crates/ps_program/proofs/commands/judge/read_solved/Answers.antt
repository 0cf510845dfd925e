use Rattle.std.proofs.Common.{arith}
use Rattle.ps_program.specs.Commands.Judging.{ReadsSolutionText}
use Rattle.ps_program.proofs.ByCommand.TextLemmas.{both_read, game_fault, second_fault}
use Rattle.ps_program.proofs.commands.judge.read_solved.Goals as goal

pub returns-in_err-game-clause-read : goal.returns-in_err-game-clause-read
returns-in_err-game-clause-read c = grind (
  arith,
  game_fault ReadsSolutionText _ _ _ c.in_err-game.field-0.0 c.in_ok-first.ensures c.in_err-game.ensures,
)

pub returns-in_err-solution-clause-read : goal.returns-in_err-solution-clause-read
returns-in_err-solution-clause-read c = grind (
  arith,
  second_fault ReadsSolutionText _ _ _ _
      c.in_err-solution.field-0.0 c.in_ok-first.ensures c.in_ok-game.ensures c.in_err-solution.ensures.read,
)

pub returns-clause-read : goal.returns-clause-read
returns-clause-read c = both_read ReadsSolutionText c.args.texts.now c.in_ok-first.first.now c.in_ok-first.second.now
    c.in_ok-game.game c.in_ok-solution.solution c.in_ok-first.ensures c.in_ok-game.ensures c.in_ok-solution.ensures.read
