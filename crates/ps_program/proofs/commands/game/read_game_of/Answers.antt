use Rattle.ps_game.specs.Games.{NamedGameData}
use Rattle.ps_program.specs.Automata.{ReadsAutomaton}
use Rattle.ps_program.specs.Commands.Games.{MakesGame}
use Rattle.ps_program.proofs.ByCommand.OutcomeLemmas.{gives_after}
use Rattle.ps_program.proofs.commands.game.read_game_of.Goals as goal

pub returns-clause-game : goal.returns-clause-game
returns-clause-game c =
    let a = c.in_ok-automaton.ensures in
    gives_after (ReadsAutomaton c.args.text.now) (λ (game : NamedGameData). game) (MakesGame c.args.order) a.0
    c.make_game.result a.1 (c.make_game.ensures.game a.0 a.2.0 a.2.1)
