use Rattle.ps_game.specs.Games.{NamedGameData}
use Rattle.ps_solution.specs.Solved.{SolutionData}
use Rattle.ps_program.specs.Commands.Judging.{ReadsSolved, Judges}
use Rattle.ps_program.specs.Replies.{reply_of}
use Rattle.ps_program.proofs.ByCommand.OutcomeLemmas.{gives_after}
use Rattle.ps_program.proofs.commands.judge.judge.Goals as goal

pub returns : goal.returns
returns c =
    let both : NamedGameData × SolutionData = (c.in_ok-game.game, c.in_ok-game.solution) in
    gives_after (ReadsSolved c.args.texts.now) reply_of (λ each. Judges c.args.compact each.0 each.1) both
    c.judged.result c.in_ok-game.ensures.read c.judged.ensures
