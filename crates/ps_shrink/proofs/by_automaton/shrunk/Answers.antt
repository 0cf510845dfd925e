use Rattle.ps_shrink.proofs.AutomatonJudges.{reduced_by}
use Rattle.ps_shrink.proofs.by_automaton.shrunk.Goals as goal

pub returns-clause-reduced : goal.returns-clause-reduced
returns-clause-reduced c = reduced_by c.args.order c.args.role c.args.automaton.now c.args.circuit c.shrunk_by.result
    c.shrunk_by.ensures.reduced
