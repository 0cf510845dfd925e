use Rattle.ps_synthesis.proofs.problem.Problem.read.Goals as goal

pub returns-clause-problem : goal.returns-clause-problem
returns-clause-problem c = c.of_automaton.ensures.problem c.args.text.now c.in_ok-automaton.ensures.automaton
