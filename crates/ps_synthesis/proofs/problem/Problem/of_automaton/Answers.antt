use Rattle.std.proofs.Common.{refl}
use Rattle.ps_synthesis.proofs.problem.Problem.of_automaton.Goals as goal

pub returns-clause-problem : goal.returns-clause-problem
returns-clause-problem c = λ text of.
    record { order_is = refl; automaton_of = of; game_of = c.in_ok-game.ensures.file of.file of.chain of.built }
